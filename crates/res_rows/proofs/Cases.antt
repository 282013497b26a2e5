-- One law for each way through a function of this crate.
-- Assumes nothing.
use mathlib.Core.Path.{◌≡◌, sym, ◌∙◌}
use mathlib.Core.Bool.{Bool, true, false}
use mathlib.Core.List.{List}
use Prim.Native.Nat.{ℕ, ◌+◌, ◌%◌, ◌<◌, ◌≤◌}
use lib.ListN.{get_or}
use Rattle.base_prelude.proofs.Choice.{if_lt-yes, if_lt-no, if_eq-yes, if_eq-no, if_true-yes, if_true-no}
use Rattle.parse_lines.specs.Tokens.{token_word}
use Rattle.prog_tables.specs.Statement.{row_at}
use Rattle.prog_tables.specs.Frames.{lets_before, locals_at}
use Rattle.prog_tables.specs.declared.Operand.{Operand}
use Rattle.prog_tables.specs.declared.Operand.TheVariants.{Unlisted}
use Rattle.res_scope.specs.Lines.{label_kind}
use Rattle.res_scope.specs.Names.{meaning_of}
use Rattle.res_scope.specs.declared.Meaning.{Meaning}
use Rattle.res_rows.specs.Rows.{label_number, local_word, label_target, called_label, callee_target, is_imported, plain_operand, at_operand, constant_operand, token_operand, address_constant, address_operand, slot_operand, aOf, bOf, expr_of, callee_of, address_of}

module _ (same : ℕ → ℕ → Bool) (t k y : List ℕ) (l : ℕ) (w z : List ℕ) (r : ℕ) where
  module _ (i kind : ℕ) (o : Operand) (e : kind ≡ token_word t i 0) where
    pub token-symbol : (m : Meaning) → kind ≡ 3 → m ≡ meaning_of same k y l r i → o ≡ plain_operand w z m → o ≡ token_operand same t k y l w z r i
    unfolding token_operand
    token-symbol m h d q = q ∙ rw (← e, ← d) (sym (if_eq-yes _ _ h))

    pub token-at : (m : Meaning) → (kind ≡ 3 → ⊥) → kind ≡ 5 → m ≡ meaning_of same k y l r i → o ≡ at_operand w z m → o ≡ token_operand same t k y l w z r i
    unfolding token_operand
    token-at m g h d q = q ∙ rw (← e, ← d) (sym (if_eq-no _ _ g ∙ if_eq-yes _ _ h))

    pub token-constant : (v : ℕ) → (kind ≡ 3 → ⊥) → (kind ≡ 5 → ⊥) → v ≡ token_word t i 3 → o ≡ constant_operand kind v → o ≡ token_operand same t k y l w z r i
    unfolding token_operand
    token-constant v g h d q = q ∙ rw (← e, ← d) (sym (if_eq-no _ _ g ∙ if_eq-no _ _ h))

    pub address-name : (m : Meaning) → kind ≡ 5 → m ≡ meaning_of same k y l r i → o ≡ plain_operand w z m → o ≡ address_operand same t k y l w z r i
    unfolding address_operand
    address-name m h d q = q ∙ rw (← e, ← d) (sym (if_eq-yes _ _ h))

    pub address-constant : (v : ℕ) → (kind ≡ 5 → ⊥) → v ≡ token_word t i 3 → o ≡ address_constant kind v → o ≡ address_operand same t k y l w z r i
    unfolding address_operand
    address-constant v h d q = q ∙ rw (← e, ← d) (sym (if_eq-no _ _ h))

  module _ (first count j : ℕ) where
    pub slot-some : (o : Operand) → j < count → o ≡ token_operand same t k y l w z r (first + j) → o ≡ slot_operand same t k y l w z r first count j
    unfolding slot_operand
    slot-some o h q = q ∙ sym (if_lt-yes _ _ h)

    pub slot-none : count ≤ j → Unlisted ≡ slot_operand same t k y l w z r first count j
    unfolding slot_operand
    slot-none h = sym (if_lt-no _ _ h)

  module _ (kind i : ℕ) where
    pub a-set : (m : Meaning) (x : ℕ) → kind ≡ 6 → m ≡ meaning_of same k y l r i → x ≡ local_word w m → x ≡ aOf same k y l w z r kind i
    unfolding aOf
    a-set m x h d q = q ∙ rw (← d) (sym (if_eq-yes _ _ h))

    pub a-goto : (m : Meaning) (x : ℕ) → (kind ≡ 6 → ⊥) → kind ≡ 10 → m ≡ meaning_of same k y l r i → x ≡ label_target z m → x ≡ aOf same k y l w z r kind i
    unfolding aOf
    a-goto m x g h d q = q ∙ rw (← d) (sym (if_eq-no _ _ g ∙ if_eq-yes _ _ h))

    pub a_word : (x : ℕ) → (kind ≡ 6 → ⊥) → (kind ≡ 10 → ⊥) → x ≡ get_or w r 0 → x ≡ aOf same k y l w z r kind i
    unfolding aOf
    a_word x g h q = q ∙ sym (if_eq-no _ _ g ∙ if_eq-no _ _ h)

    pub callee-block : (x : ℕ) → kind ≡ 3 → x ≡ locals_at (row_at k) r → x % 4294967296 ≡ callee_of same k y l z r kind i
    unfolding callee_of
    callee-block x h q = rw (← q) (sym (if_eq-yes _ _ h))

    pub callee-none : (kind ≡ 3 → ⊥) → i ≡ 0 → 0 ≡ callee_of same k y l z r kind i
    unfolding callee_of
    callee-none g h = sym (if_eq-no _ _ g ∙ if_eq-yes _ _ h)

    pub callee-name : (m : Meaning) (x : ℕ) → (kind ≡ 3 → ⊥) → (i ≡ 0 → ⊥) → m ≡ meaning_of same k y l r i → x ≡ callee_target y z m → x ≡ callee_of same k y l z r kind i
    unfolding callee_of
    callee-name m x g h d q = q ∙ rw (← d) (sym (if_eq-no _ _ g ∙ if_eq-no _ _ h))

    pub address-set : (o : Operand) → kind ≡ 7 → o ≡ address_operand same t k y l w z r i → o ≡ address_of same t k y l w z r kind i
    unfolding address_of
    address-set o h q = q ∙ sym (if_eq-yes _ _ h)

    pub address-none : (kind ≡ 7 → ⊥) → Unlisted ≡ address_of same t k y l w z r kind i
    unfolding address_of
    address-none h = sym (if_eq-no _ _ h)

pub ruleset operands = (token-symbol, token-at, token-constant, address-name, address-constant)

pub ruleset slots = (slot-some, slot-none)

pub ruleset destinations = (a-set, a-goto, a_word)

pub ruleset callees = (callee-block, callee-none, callee-name)

pub ruleset addresses = (address-set, address-none)

module _ (k : List ℕ) (c r kind : ℕ) where
  pub b-function : (x : ℕ) → kind ≡ 1 → x ≡ (row_at k r).b → x ≡ bOf k c r kind
  unfolding bOf
  b-function x h q = q ∙ sym (if_eq-yes _ _ h)

  pub b-block : (x : ℕ) → (kind ≡ 1 → ⊥) → kind ≡ 3 → x ≡ lets_before (row_at k) r c → x ≡ bOf k c r kind
  unfolding bOf
  b-block x g h q = q ∙ sym (if_eq-no _ _ g ∙ if_eq-yes _ _ h)

  pub b-none : (kind ≡ 1 → ⊥) → (kind ≡ 3 → ⊥) → 0 ≡ bOf k c r kind
  unfolding bOf
  b-none g h = sym (if_eq-no _ _ g ∙ if_eq-no _ _ h)

pub ruleset counts = (b-function, b-block, b-none)

-- ---- calls of imported functions

module _ (y z : List ℕ) (j x : ℕ) (e : x ≡ label_kind y j) where
  pub called-import : x ≡ 6 → j ≡ called_label y z j
  unfolding called_label
  called-import h = rw (← e) (sym (if_eq-yes _ _ h))

  pub called-other : (v : ℕ) → (x ≡ 6 → ⊥) → v ≡ label_number z j → v ≡ called_label y z j
  unfolding called_label
  called-other v h q = q ∙ rw (← e) (sym (if_eq-no _ _ h))

pub ruleset calling = (called-import, called-other)

module _ (same : ℕ → ℕ → Bool) (k y : List ℕ) (l r expr i : ℕ) where
  pub expr-none : i ≡ 0 → expr ≡ expr_of same k y l r expr i
  unfolding expr_of
  expr-none h = sym (if_eq-yes _ _ h)

  module _ (m : Meaning) (b : Bool) (h : i ≡ 0 → ⊥) (e : m ≡ meaning_of same k y l r i) (q : b ≡ is_imported y m) where
    pub expr-import : b ≡ true → 3 ≡ expr_of same k y l r expr i
    unfolding expr_of
    expr-import d = rw (← e, ← q) (sym (if_eq-no _ _ h ∙ if_true-yes _ _ d))

    pub expr-other : b ≡ false → expr ≡ expr_of same k y l r expr i
    unfolding expr_of
    expr-other d = rw (← e, ← q) (sym (if_eq-no _ _ h ∙ if_true-no _ _ d))

pub ruleset expressing = (expr-none, expr-import, expr-other)
