-- The ways through each function.
-- Assumes nothing.
use mathlib.Core.Path.{◌≡◌, refl, sym, ◌∙◌}
use mathlib.Core.Bool.{Bool, true, false}
use mathlib.Core.List.{List}
use Prim.Native.Nat.{ℕ, ◌≤◌}
use lib.ListN.{length, get_or, get_or-eq_default}
use borrow.Author.Tests.{eq-eqb, ne_eqb, eqb-true}
use lib.Dec.{eqb}
use Rattle.base_prelude.specs.Choice.{pick, if_lt, if_true, if_eq}
use Rattle.base_prelude.proofs.Choice.{tests, if_eq-no}
use Rattle.lang_words.specs.Words.{words, first_of, is_number, entry_of, least_operands}
use Rattle.prog_tables.specs.Tests.{given, all_below}
use Rattle.prog_tables.specs.Statement.{has_expression, is_test, is_operator, is_call_row, is_call, is_import, is_call_expression, expression_uses, used_by}
use Rattle.prog_tables.proofs.Each.{below_at, given-then}
use Rattle.prog_tables.proofs.Ranges.{operator-most}

pub word_none : (t : List ℕ) (i : ℕ) → length t ≤ i → 0 ≡ get_or t i 0
word_none t i h = sym (get_or-eq_default t 0 h)

-- ---- operands of an expression

abbrev usual : ℕ → ℕ
usual e = if_eq e 36 1 (if_eq e 37 1 (if_eq e 44 1 2))

-- over the whole table
operators : all_below (λ e. given (is_operator e) (eqb (least_operands e) (usual e))) 52 ≡ true
unfolding all_below is_operator least_operands entry_of first_of is_number words if_eq if_lt
operators = refl

operands-usual : (e : ℕ) → is_operator e ≡ true → least_operands e ≡ usual e
operands-usual e h =
    eqb-true (least_operands e) (usual e)
    (given-then (is_operator e) (eqb (least_operands e) (usual e)) (below_at (λ e. given (is_operator e) (eqb (least_operands e) (usual e))) 52 e operators (operator-most e h)) h)

module _ (e n : ℕ) where
  pub uses-plain : e ≡ 1 → 1 ≡ expression_uses e n
  unfolding expression_uses if_eq
  uses-plain h = rw (eq-eqb _ _ h)

  module _ (p : e ≡ 1 → ⊥) where
    pub uses-call : e ≡ 2 → n ≡ expression_uses e n
    unfolding expression_uses if_eq
    uses-call h = rw (ne_eqb _ _ p, eq-eqb _ _ h)

    pub uses-import : (e ≡ 2 → ⊥) → e ≡ 3 → n ≡ expression_uses e n
    unfolding expression_uses if_eq
    uses-import q h = rw (ne_eqb _ _ p, ne_eqb _ _ q, eq-eqb _ _ h)

    module _ (b : Bool) (q : e ≡ 2 → ⊥) (q' : e ≡ 3 → ⊥) (d : b ≡ is_operator e) where
      pub uses-none : b ≡ false → 0 ≡ expression_uses e n
      unfolding expression_uses if_eq if_true
      uses-none h = rw (ne_eqb _ _ p, ne_eqb _ _ q, ne_eqb _ _ q', ← d, h)

      operator : b ≡ true → usual e ≡ expression_uses e n
      unfolding expression_uses if_true
      operator h = rw (if_eq-no 1 (if_eq e 2 n (if_eq e 3 n (pick (is_operator e) (least_operands e) 0))) p, if_eq-no n (if_eq e 3 n (pick (is_operator e) (least_operands e) 0)) q, if_eq-no n (pick (is_operator e) (least_operands e) 0) q', ← d, h, operands-usual e (sym d ∙ h)) refl

      pub uses-36 : b ≡ true → e ≡ 36 → 1 ≡ expression_uses e n
      uses-36 h g = if_eq-yes-1 ∙ operator h
        where
          if_eq-yes-1 : 1 ≡ usual e
          if_eq-yes-1 = search tests

      pub uses-37 : b ≡ true → (e ≡ 36 → ⊥) → e ≡ 37 → 1 ≡ expression_uses e n
      uses-37 h g k = is-1 ∙ operator h
        where
          is-1 : 1 ≡ usual e
          is-1 = search tests

      pub uses-44 : b ≡ true → (e ≡ 36 → ⊥) → (e ≡ 37 → ⊥) → e ≡ 44 → 1 ≡ expression_uses e n
      uses-44 h g k l = is-1 ∙ operator h
        where
          is-1 : 1 ≡ usual e
          is-1 = search tests

      pub uses-two : b ≡ true → (e ≡ 36 → ⊥) → (e ≡ 37 → ⊥) → (e ≡ 44 → ⊥) → 2 ≡ expression_uses e n
      uses-two h g k l = is-2 ∙ operator h
        where
          is-2 : 2 ≡ usual e
          is-2 = search tests

pub ruleset uses = (uses-plain, uses-call, uses-import, uses-none, uses-36, uses-37, uses-44, uses-two)

-- ---- operands of a row, calls

abbrev stores : ℕ → ℕ
stores k = if_eq k 8 3 (if_eq k 9 3 0)

module _ (k e : ℕ) (b : Bool) (d : b ≡ has_expression k) where
  pub used-expression : (n m : ℕ) → b ≡ true → m ≡ expression_uses e n → m ≡ used_by k e n
  unfolding used_by if_true
  used-expression n m h q = rw (← d, h) q

  module _ (n : ℕ) (v : Bool) (h : b ≡ false) (r : v ≡ is_call_row k) where
    pub used-call : v ≡ true → n ≡ used_by k e n
    unfolding used_by if_true
    used-call q = rw (← d, h, ← r, q)

    module _ (w : Bool) (q : v ≡ false) (s : w ≡ is_test k) where
      pub used-test : w ≡ true → 2 ≡ used_by k e n
      unfolding used_by if_true
      used-test l = rw (← d, h, ← r, q, ← s, l)

      rest : w ≡ false → stores k ≡ used_by k e n
      unfolding used_by if_true
      rest l = rw (← d, h, ← r, q, ← s, l)

      pub used-byte : w ≡ false → k ≡ 8 → 3 ≡ used_by k e n
      used-byte l g = is-3 ∙ rest l
        where
          is-3 : 3 ≡ stores k
          is-3 = search tests

      pub used-word : w ≡ false → (k ≡ 8 → ⊥) → k ≡ 9 → 3 ≡ used_by k e n
      used-word l f g = is-3 ∙ rest l
        where
          is-3 : 3 ≡ stores k
          is-3 = search tests

      pub used-none : w ≡ false → (k ≡ 8 → ⊥) → (k ≡ 9 → ⊥) → 0 ≡ used_by k e n
      used-none l f g = is-0 ∙ rest l
        where
          is-0 : 0 ≡ stores k
          is-0 = search tests

  pub call-expression : (e ≡ 3 → ⊥) → (k ≡ 11 → ⊥) → (k ≡ 12 → ⊥) → b ≡ true → eqb e 2 ≡ is_call k e
  unfolding is_call if_eq if_true
  call-expression o p q h = rw (ne_eqb _ _ o, ne_eqb _ _ p, ne_eqb _ _ q, ← d, h)

  pub call_none : (e ≡ 3 → ⊥) → (k ≡ 11 → ⊥) → (k ≡ 12 → ⊥) → b ≡ false → false ≡ is_call k e
  unfolding is_call if_eq if_true
  call_none o p q h = rw (ne_eqb _ _ o, ne_eqb _ _ p, ne_eqb _ _ q, ← d, h)

  pub import-expression : (v : Bool) → e ≡ 3 → v ≡ is_call_row k → v ≡ false → b ≡ is_import k e
  unfolding is_import if_eq if_true
  import-expression v o q h = rw (eq-eqb _ _ o, ← q, h) d

pub import-row : (k e : ℕ) (v : Bool) → e ≡ 3 → v ≡ is_call_row k → v ≡ true → true ≡ is_import k e
unfolding is_import if_eq if_true
import-row k e v o q h = rw (eq-eqb _ _ o, ← q, h)

pub import-none : (k e : ℕ) → (e ≡ 3 → ⊥) → false ≡ is_import k e
unfolding is_import if_eq
import-none k e o = rw (ne_eqb _ _ o)

pub row-call : (k : ℕ) → k ≡ 11 → true ≡ is_call_row k
row-call k h = rw (eq-eqb _ _ h)

pub row-tail : (k : ℕ) → (k ≡ 11 → ⊥) → eqb k 12 ≡ is_call_row k
row-tail k h = rw (ne_eqb _ _ h)

pub either-call : (e : ℕ) → e ≡ 2 → true ≡ is_call_expression e
unfolding is_call_expression if_eq
either-call e h = rw (eq-eqb _ _ h)

pub either-import : (e : ℕ) → (e ≡ 2 → ⊥) → eqb e 3 ≡ is_call_expression e
unfolding is_call_expression if_eq
either-import e h = rw (ne_eqb _ _ h)

pub ruleset calls = (import-expression, import-row, import-none, row-call, row-tail, either-call, either-import)

pub ruleset used = (used-expression, used-call, used-test, used-byte, used-word, used-none, call-expression, call_none)
