-- What a rule finds stands at a token of its unit.
-- Assumes nothing.
use mathlib.Core.Path.{◌≡◌, refl, sym, ◌∙◌, ap, subst}
use mathlib.Core.Bool.{Bool, true, false}
use mathlib.Core.List.{List, [], ◌∷◌}
use mathlib.Core.Logic.{◌⊎◌, inl, inr}
use Prim.Native.Nat.{ℕ, zero, suc, ◌+◌, ◌*◌, ◌-◌, ◌≤◌, ◌<◌, min}
use native.Mathlib.Nat.{min-eq_left, min-eq_right}
use native.Mathlib.Decide.{dec_lt}
use native.Mathlib.Omega.{arith}
use Rattle.base_prelude.specs.Choice.{if_lt, if_eq, if_true}
use Rattle.base_prelude.specs.Fault.{none, least_of}
use Rattle.base_prelude.proofs.Choice.{either, either-eq, either_true, true-false}
use Rattle.base_limits.specs.declared.Width.{Width}
use Rattle.parse_lines.specs.Tokens.{kind_at, word_at, key_at}
use Rattle.parse_lines.specs.declared.Span.{Span}
use Rattle.parse_shapes.specs.Shapes.{is_name}
use Rattle.parse_rules.specs.Rules.{shape_rule, left_rule, name_key, substitute_key, token_key, tokens_least, tokens_rule, past_most, list_rule, reserved_label, label_limit, label_key, labelled, label_step, labels_from, labels_rule}
use Rattle.parse_rules.specs.declared.Labelled.{Labelled}
use Rattle.parse_units.specs.Places.{label_rule, place_rule, import_labels, import_rule, room_rule, locals_rule, depth_rule, line_faults, limit_faults, unit_fault}
use Rattle.parse_units.specs.declared.State.{State}

-- nothing, or a fault at a token from a to before b
pub data Found (t : List ℕ) (n a b : ℕ) : ℕ → Type 0 where
  nothing : Found t n a b none
  found : (i m : ℕ) → a ≤ i → i < b → m < 64 → Found t n a b (key_at t n i m)

pub found-min : (t : List ℕ) (n a b x y : ℕ) → Found t n a b x → Found t n a b y → Found t n a b (min x y)
found-min t n a b x y p q =
    elim (dec_lt x y) [
      | yes h ↦ subst (Found t n a b) (sym (min-eq_left (omega arith))) p
      | no h ↦ subst (Found t n a b) (sym (min-eq_right (omega arith))) q
    ]

module _ (t : List ℕ) (n : ℕ) (a b : ℕ) where
  name-found : (own i : ℕ) → a ≤ i → i < b → Found t n a b (name_key t n own i)
  unfolding name_key
  name-found own i h g =
      either-eq (Found t n a b) i own _ _ (λ _. nothing) (λ _.
      either (Found t n a b) (word_at t i) 1 _ _ (λ _. nothing) (λ _.
      either (Found t n a b) (word_at t i) 52 _ _ (λ _. found i 8 h g (omega arith)) (λ _. nothing)))

  substitute-found : (i : ℕ) → a ≤ i → i < b → Found t n a b (substitute_key t n i)
  unfolding substitute_key
  substitute-found i h g =
      either-eq (Found t n a b) (word_at t i) 1 _ _ (λ _. nothing) (λ _.
      either-eq (Found t n a b) (word_at t i) 2 _ _ (λ _. nothing) (λ _.
      either-eq (Found t n a b) (word_at t i) 3 _ _ (λ _. found i 9 h g (omega arith)) (λ _. found i 7 h g (omega arith))))

  token-found : (own i : ℕ) → a ≤ i → i < b → Found t n a b (token_key t n own i)
  unfolding token_key
  token-found own i h g =
      either-eq (Found t n a b) (kind_at t i) 3 _ _ (λ _. name-found own i h g) (λ _.
      either-eq (Found t n a b) (kind_at t i) 5 _ _ (λ _. name-found own i h g) (λ _.
      either-eq (Found t n a b) (kind_at t i) 4 _ _ (λ _. substitute-found i h g) (λ _.
      either-eq (Found t n a b) (kind_at t i) 6 _ _ (λ _. substitute-found i h g) (λ _. nothing))))

  tokens-found : (left own i : ℕ) → a ≤ i → i + left ≤ b → Found t n a b (tokens_least left t n own i)
  unfolding tokens_least
  tokens-found zero own i h g = nothing
  tokens-found (suc left) own i h g =
      found-min t n a b _ _ (token-found own i h (omega arith)) (tokens-found left own (i + 1) (omega arith) (omega arith))

  label-found : (i c : ℕ) → a ≤ i → i < b → Found t n a b (label_key t n i c)
  unfolding label_key reserved_label label_limit
  label-found i c h g =
      found-min t n a b _ _
      (either (Found t n a b) (word_at t i) 1 _ _ (λ _. nothing) (λ _.
      either (Found t n a b) (word_at t i) 52 _ _ (λ _. found i 8 h g (omega arith)) (λ _. nothing)))
      (either (Found t n a b) c 256 _ _ (λ _. nothing) (λ _. found i 14 h g (omega arith)))

  step-found : (i : ℕ) (x : Labelled) → a ≤ i → i < b → Found t n a b x.fault → Found t n a b (label_step t n i x).fault
  unfolding label_step
  step-found i x h g p =
      either-eq (λ (y : Labelled). Found t n a b y.fault) (kind_at t i) 2 _ _ (λ _. found-min t n a b _ _ p (label-found i x.count h g)) (λ _. p)

  labels-found : (left i : ℕ) (x : Labelled) → a ≤ i → i + left ≤ b → Found t n a b x.fault → Found t n a b (labels_from left t n i x).fault
  unfolding labels_from
  labels-found zero i x h g p = p
  labels-found (suc left) i x h g p = labels-found left (i + 1) (label_step t n i x) (omega arith) (omega arith) (step-found i x h (omega arith) p)

module _ (w : Width) (t : List ℕ) (n : ℕ) (u : Span) (k g : ℕ) (s : State) (o : u.first ≤ u.word) (l : u.word < u.next)
    (q : kind_at t (u.word + 1) ≡ 3 → u.word + 1 < u.next) where
  abbrev F : ℕ → Type 0
  F x = Found t n u.first u.next x

  at-word : (m : ℕ) → m < 64 → F (key_at t n u.word m)
  at-word m h = found u.word m o l h

  rule-label : F (label_rule t n u g)
  unfolding label_rule
  rule-label =
      either-eq F (kind_at t u.first) 2 _ _ (λ _. either_true F _ _ _ (λ _. nothing) (λ _. found u.first 8 (omega arith) (omega arith) (omega arith))) (λ _. nothing)

  rule-labels : F (labels_rule t n u s.labels).fault
  unfolding labels_rule
  rule-labels = labels-found t n u.first u.next (u.word - u.first) u.first (labelled none s.labels) (omega arith) (omega arith) nothing

  rule-shape : F (shape_rule w t n u k)
  unfolding shape_rule
  rule-shape =
      either-eq F k 0 _ _ (λ _. nothing) (λ _. either-eq F k 34 _ _ (λ _. nothing) (λ _.
      either-eq F k 35 _ _ (λ _. at-word 7 (omega arith)) (λ _. either_true F _ _ _ (λ _. nothing) (λ _. at-word 7 (omega arith)))))

  rule-place : F (place_rule t n u k g)
  unfolding place_rule
  rule-place = either_true F _ _ _ (λ _. nothing) (λ _. at-word 8 (omega arith))

  rule-left : F (left_rule t n u k)
  unfolding left_rule
  rule-left = either-eq F k 34 _ _ (λ _. at-word 9 (omega arith)) (λ _. nothing)

  limit-found : (c : ℕ) → u.word + 1 < u.next → F (label_limit t n (u.word + 1) c)
  unfolding label_limit
  limit-found c h = either F c 256 _ _ (λ _. nothing) (λ _. found (u.word + 1) 14 (omega arith) h (omega arith))

  -- an import that is a label has a name
  named : (import_labels t u k ≡ 0 → ⊥) → kind_at t (u.word + 1) ≡ 3
  unfolding import_labels is_name
  named =
      either-eq (λ (x : ℕ). (x ≡ 0 → ⊥) → kind_at t (u.word + 1) ≡ 3) k 36 _ _
      (λ _. either_true (λ (x : ℕ). (x ≡ 0 → ⊥) → kind_at t (u.word + 1) ≡ 3) _ _ _ (λ b _. by b) (λ _ d. absurd (d refl))) (λ _ d. absurd (d refl))
    where
      by : if_eq (kind_at t (u.word + 1)) 3 true false ≡ true → kind_at t (u.word + 1) ≡ 3
      by = either-eq (λ (b : Bool). b ≡ true → kind_at t (u.word + 1) ≡ 3) (kind_at t (u.word + 1)) 3 _ _ (λ e _. e) (λ _ z. true-false (sym z))

  rule-import : F (import_rule t n u k (labels_rule t n u s.labels).count)
  unfolding import_rule
  rule-import = either-eq F (import_labels t u k) 0 _ _ (λ _. nothing) (λ d. limit-found _ (q (named d)))

  rule-room : F (room_rule t n u k s.count)
  unfolding room_rule
  rule-room = either F _ _ _ _ (λ _. at-word 14 (omega arith)) (λ _. nothing)

  rule-locals : F (locals_rule t n u k s.locals)
  unfolding locals_rule
  rule-locals = either-eq F k 5 _ _ (λ _. either F s.locals 64 _ _ (λ _. nothing) (λ _. at-word 14 (omega arith))) (λ _. nothing)

  rule-depth : F (depth_rule t n u k s.depth)
  unfolding depth_rule
  rule-depth = either-eq F k 3 _ _ (λ _. either F s.depth 16 _ _ (λ _. nothing) (λ _. at-word 14 (omega arith))) (λ _. nothing)

  rule-tokens : F (tokens_rule t n u k)
  unfolding tokens_rule
  rule-tokens = tokens-found t n u.first u.next (u.next - (u.word + 1)) _ (u.word + 1) (omega arith) (omega arith)

  past-found : (i : ℕ) → u.first ≤ i → F (past_most t n i u.next)
  unfolding past_most
  past-found i h = either F i u.next _ _ (λ q. found i 14 h q (omega arith)) (λ _. nothing)

  rule-list : F (list_rule t n u k)
  unfolding list_rule
  rule-list = either_true F _ _ _ (λ _. past-found _ (omega arith)) (λ _. nothing)

  -- the least of all of them
  pub unit-found : F (unit_fault w t n u k g s)
  unfolding unit_fault line_faults limit_faults least_of
  unit-found =
      found-min t n u.first u.next _ _
      (found-min t n u.first u.next _ _ rule-label (found-min t n u.first u.next _ _ rule-labels (found-min t n u.first u.next _ _ rule-shape
      (found-min t n u.first u.next _ _ rule-place (found-min t n u.first u.next _ _ rule-left
      (found-min t n u.first u.next _ _ rule-import nothing))))))
      (found-min t n u.first u.next _ _ rule-room (found-min t n u.first u.next _ _ rule-locals (found-min t n u.first u.next _ _ rule-depth
      (found-min t n u.first u.next _ _ rule-tokens (found-min t n u.first u.next _ _ rule-list nothing)))))
