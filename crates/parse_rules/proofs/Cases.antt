-- One law for each way through a rule.
-- Assumes nothing.
use mathlib.Core.Path.{◌≡◌}
use mathlib.Core.Bool.{Bool, true, false}
use mathlib.Core.List.{List}
use Prim.Native.Nat.{ℕ, ◌+◌, ◌≤◌, ◌<◌, min}
use Rattle.base_prelude.specs.Fault.{none}
use Rattle.base_prelude.proofs.Choice.{tests}
use Rattle.base_limits.specs.declared.Width.{Width}
use Rattle.lang_words.specs.Words.{most_operands}
use Rattle.parse_lines.specs.Tokens.{token_word, key_at}
use Rattle.parse_shapes.specs.Shapes.{is_name, is_operator, is_listed, shape_fits}
use Rattle.parse_lines.specs.declared.Span.{Span}
use Rattle.parse_rules.specs.Rules.{shape_rule, left_rule, is_head, head_at, name_key, substitute_key, token_key, past_most, list_rule, reserved_label, label_limit, label_key, labelled, label_step}
use Rattle.parse_rules.specs.declared.Labelled.{Labelled}

module _ (w : Width) (t : List ℕ) (n : ℕ) (u : Span) (k : ℕ) where
  pub shape-edge : k ≡ 0 → none ≡ shape_rule w t n u k
  unfolding shape_rule
  shape-edge e = search tests

  pub shape-left : (k ≡ 0 → ⊥) → k ≡ 34 → none ≡ shape_rule w t n u k
  unfolding shape_rule
  shape-left e f = search tests

  pub shape-unknown : (r : ℕ) → (k ≡ 0 → ⊥) → (k ≡ 34 → ⊥) → k ≡ 35 → r ≡ key_at t n u.word 7 → r ≡ shape_rule w t n u k
  unfolding shape_rule
  shape-unknown r e f g q = rw (← q) (search tests)

  module _ (b : Bool) (e : k ≡ 0 → ⊥) (f : k ≡ 34 → ⊥) (g : k ≡ 35 → ⊥) (p : b ≡ shape_fits w t u k) where
    pub shape-good : b ≡ true → none ≡ shape_rule w t n u k
    unfolding shape_rule
    shape-good h = rw (← p) (search tests)

    pub shape-bad : (r : ℕ) → b ≡ false → r ≡ key_at t n u.word 7 → r ≡ shape_rule w t n u k
    unfolding shape_rule
    shape-bad r h q = rw (← p, ← q) (search tests)

pub ruleset shaping = (shape-edge, shape-left, shape-unknown, shape-good, shape-bad)

module _ (t : List ℕ) (n : ℕ) (u : Span) (k : ℕ) where
  pub left_out_lem : (r : ℕ) → k ≡ 34 → r ≡ key_at t n u.word 9 → r ≡ left_rule t n u k
  unfolding left_rule
  left_out_lem r e q = rw (← q) (search tests)

  pub left-none : (k ≡ 34 → ⊥) → none ≡ left_rule t n u k
  unfolding left_rule
  left-none e = search tests

pub ruleset lefts = (left_out_lem, left-none)

module _ (t : List ℕ) (i : ℕ) where
  module _ (b : Bool) (p : b ≡ is_name t i) where
    pub head-no : b ≡ false → false ≡ is_head t i
    unfolding is_head
    head-no e = rw (← p) (search tests)

    module _ (w : ℕ) (e : b ≡ true) (q : w ≡ token_word t i 5) where
      pub head-call : w ≡ 14 → true ≡ is_head t i
      unfolding is_head
      head-call f = rw (← p, ← q) (search tests)

      pub head-operator : (r : Bool) → (w ≡ 14 → ⊥) → r ≡ is_operator w → r ≡ is_head t i
      unfolding is_head
      head-operator r f g = rw (← p, ← q, ← g) (search tests)

  module _ (b : Bool) (p : b ≡ is_head t i) where
    pub head-here : b ≡ true → i ≡ head_at t i
    unfolding head_at
    head-here e = rw (← p) (search tests)

    pub head-none : b ≡ false → 0 ≡ head_at t i
    unfolding head_at
    head-none e = rw (← p) (search tests)

pub ruleset heads = (head-no, head-call, head-operator, head-here, head-none)

module _ (t : List ℕ) (n own i : ℕ) where
  pub name-own : i ≡ own → none ≡ name_key t n own i
  unfolding name_key
  name-own e = search tests

  pub name-other : (r : ℕ) → (i ≡ own → ⊥) → r ≡ reserved_label t n i → r ≡ name_key t n own i
  unfolding name_key reserved_label
  name-other r e p = search tests

  module _ (k : ℕ) (p : k ≡ token_word t i 0) where
    pub key-symbol : (r : ℕ) → k ≡ 3 → r ≡ name_key t n own i → r ≡ token_key t n own i
    unfolding token_key
    key-symbol r e q = rw (← p, ← q) (search tests)

    pub key-at-symbol : (r : ℕ) → (k ≡ 3 → ⊥) → k ≡ 5 → r ≡ name_key t n own i → r ≡ token_key t n own i
    unfolding token_key
    key-at-symbol r e f q = rw (← p, ← q) (search tests)

    pub key-substitute : (r : ℕ) → (k ≡ 3 → ⊥) → (k ≡ 5 → ⊥) → k ≡ 4 → r ≡ substitute_key t n i → r ≡ token_key t n own i
    unfolding token_key
    key-substitute r e f g q = rw (← p, ← q) (search tests)

    pub key-at-substitute : (r : ℕ) → (k ≡ 3 → ⊥) → (k ≡ 5 → ⊥) → (k ≡ 4 → ⊥) → k ≡ 6 → r ≡ substitute_key t n i → r ≡ token_key t n own i
    unfolding token_key
    key-at-substitute r e f g h q = rw (← p, ← q) (search tests)

    pub key-none : (k ≡ 3 → ⊥) → (k ≡ 5 → ⊥) → (k ≡ 4 → ⊥) → (k ≡ 6 → ⊥) → none ≡ token_key t n own i
    unfolding token_key
    key-none e f g h = rw (← p) (search tests)

pub ruleset names = (name-own, name-other)

pub ruleset keys = (key-symbol, key-at-symbol, key-substitute, key-at-substitute, key-none)

module _ (t : List ℕ) (n i w : ℕ) (p : w ≡ token_word t i 5) where
  pub stands-bits : w ≡ 1 → none ≡ substitute_key t n i
  unfolding substitute_key
  stands-bits e = rw (← p) (search tests)

  pub stands-bytes : (w ≡ 1 → ⊥) → w ≡ 2 → none ≡ substitute_key t n i
  unfolding substitute_key
  stands-bytes e f = rw (← p) (search tests)

  pub stands-left : (r : ℕ) → (w ≡ 1 → ⊥) → (w ≡ 2 → ⊥) → w ≡ 3 → r ≡ key_at t n i 9 → r ≡ substitute_key t n i
  unfolding substitute_key
  stands-left r e f g q = rw (← p, ← q) (search tests)

  pub stands-none : (r : ℕ) → (w ≡ 1 → ⊥) → (w ≡ 2 → ⊥) → (w ≡ 3 → ⊥) → r ≡ key_at t n i 7 → r ≡ substitute_key t n i
  unfolding substitute_key
  stands-none r e f g q = rw (← p, ← q) (search tests)

  pub label-free : w < 1 → none ≡ reserved_label t n i
  unfolding reserved_label
  label-free h = rw (← p) (search tests)

  pub label-reserved : (r : ℕ) → 1 ≤ w → w < 52 → r ≡ key_at t n i 8 → r ≡ reserved_label t n i
  unfolding reserved_label
  label-reserved r h g q = rw (← p, ← q) (search tests)

  pub label-section : 1 ≤ w → 52 ≤ w → none ≡ reserved_label t n i
  unfolding reserved_label
  label-section h g = rw (← p) (search tests)

pub ruleset stands = (stands-bits, stands-bytes, stands-left, stands-none, label-free, label-reserved, label-section)

module _ (t : List ℕ) (n i : ℕ) where
  pub past-key : (next r : ℕ) → i < next → r ≡ key_at t n i 14 → r ≡ past_most t n i next
  unfolding past_most
  past-key next r h q = rw (← q) (search tests)

  pub past-none : (next : ℕ) → next ≤ i → none ≡ past_most t n i next
  unfolding past_most
  past-none next h = search tests

  pub limit-none : (c : ℕ) → c < 256 → none ≡ label_limit t n i c
  unfolding label_limit
  limit-none c h = search tests

  pub limit-key : (c r : ℕ) → 256 ≤ c → r ≡ key_at t n i 14 → r ≡ label_limit t n i c
  unfolding label_limit
  limit-key c r h q = rw (← q) (search tests)

pub ruleset limits-are = (past-key, past-none, limit-none, limit-key)

module _ (t : List ℕ) (n : ℕ) (u : Span) (k : ℕ) (b : Bool) (p : b ≡ is_listed k) where
  pub list-some : (w most r : ℕ) → b ≡ true → w ≡ token_word t u.word 5 → most ≡ most_operands w → r ≡ past_most t n (u.word + 1 + most) u.next → r ≡ list_rule t n u k
  unfolding list_rule
  list-some w most r e q f g = rw (← p, ← q, ← f, ← g) (search tests)

  pub list-none : b ≡ false → none ≡ list_rule t n u k
  unfolding list_rule
  list-none e = rw (← p) (search tests)

pub ruleset lists = (list-some, list-none)

module _ (t : List ℕ) (n i : ℕ) (x : Labelled) (k : ℕ) (p : k ≡ token_word t i 0) where
  pub step_label : (a b : ℕ) → k ≡ 2 → a ≡ label_key t n i x.count → b ≡ min x.fault a → labelled b (x.count + 1) ≡ label_step t n i x
  unfolding label_step
  step_label a b e q f = rw (← p, ← q, ← f) (search tests)

  pub step-newline : (k ≡ 2 → ⊥) → x ≡ label_step t n i x
  unfolding label_step
  step-newline e = rw (← p) (search tests)

pub ruleset label-steps = (step_label, step-newline)
