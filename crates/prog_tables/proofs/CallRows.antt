-- Expression kinds: `call` and `tail-call` rows apart from those with an expression.
-- Assumes nothing.
use mathlib.Core.Path.{◌≡◌, refl, sym, ◌∙◌, ap}
use mathlib.Core.Bool.{Bool, true, false, not}
use Prim.Native.Nat.{ℕ}
use native.Mathlib.Decide.{ℕ_discrete}
use lib.Dec.{eqb}
use borrow.Author.Tests.{eqb-true, ne_eqb}
use Rattle.base_prelude.specs.Choice.{pick, if_lt, if_eq, if_true}
use Rattle.base_prelude.proofs.Choice.{true-false}
use Rattle.prog_tables.specs.Tests.{both, one_of}
use Rattle.prog_tables.specs.Statement.{has_expression, is_call_row, is_call, is_import, is_call_expression}
use Rattle.prog_tables.specs.Faults.{expression_listed, expression_fault}

pub call-bare : (k : ℕ) → is_call_row k ≡ true → has_expression k ≡ false
unfolding has_expression if_lt
call-bare k e =
    elim (ℕ_discrete k 11) [
      | yes q ↦ rw q
      | no q ↦ rw (eqb-true k 12 (sym (ap (λ (b : Bool). one_of b (eqb k 12)) (ne_eqb k 11 q)) ∙ e))
    ]

pub expression-row : (k : ℕ) → has_expression k ≡ true → is_call_row k ≡ false
expression-row k h = by (is_call_row k) refl
  where
    by : (b : Bool) → is_call_row k ≡ b → b ≡ false
    by true e = true-false (sym h ∙ call-bare k e)
    by false e = refl

-- a row that calls neither a function nor an imported one
pub quiet_row : (k e : ℕ) → is_call k e ≡ false → is_import k e ≡ false → is_call_row k ≡ false
unfolding is_call is_import if_eq if_true
quiet_row k e = by (eqb e 3) (eqb k 11) (eqb k 12) _ _
  where
    by : (i a b c d : Bool) → pick i false (pick a true (pick b true c)) ≡ false → pick i (pick (one_of a b) true d) false ≡ false → one_of a b ≡ false
    by true true b c d h g = true-false g
    by true false true c d h g = true-false g
    by true false false c d h g = refl
    by false true b c d h g = true-false h
    by false false true c d h g = true-false h
    by false false false c d h g = refl

-- a row that has no expression and is no call
pub bare-call : (k e : ℕ) → has_expression k ≡ false → is_call_row k ≡ false → is_call k e ≡ false
unfolding is_call if_eq if_true
bare-call k e = by (eqb e 3) (eqb k 11) (eqb k 12) (has_expression k) (eqb e 2)
  where
    by : (i a b c d : Bool) → c ≡ false → one_of a b ≡ false → pick i false (pick a true (pick b true (pick c d false))) ≡ false
    by true a b c d h q = refl
    by false true b c d h q = q
    by false false true c d h q = q
    by false false false true d h q = true-false h
    by false false false false d h q = refl

pub bare-import : (k e : ℕ) → has_expression k ≡ false → is_call_row k ≡ false → is_import k e ≡ false
unfolding is_import if_eq if_true
bare-import k e = by (eqb e 3) (is_call_row k) (has_expression k)
  where
    by : (i a c : Bool) → c ≡ false → a ≡ false → pick i (pick a true c) false ≡ false
    by true true c h q = q
    by true false c h q = h
    by false a c h q = refl

-- a row that calls an imported function calls none of the source
pub import-apart : (k e : ℕ) → is_import k e ≡ true → is_call k e ≡ false
unfolding is_call is_import if_eq if_true
import-apart k e = by (eqb e 3) _ _
  where
    by : (i a b : Bool) → pick i a false ≡ true → pick i false b ≡ false
    by true a b h = refl
    by false a b h = true-false (sym h)

module _ (k e : ℕ) where
  pub listed-none : has_expression k ≡ false → is_call_row k ≡ false → expression_fault k e ≡ false
  listed-none h q = rw (q, h)

  pub listed-expression : has_expression k ≡ true → expression_listed k e ≡ true → expression_fault k e ≡ false
  listed-expression h l = rw (expression-row k h, h, l)

  pub expression-listed : expression_fault k e ≡ false → has_expression k ≡ true → expression_listed k e ≡ true
  expression-listed = by (both (is_call_row k) (not (is_call_expression e))) (has_expression k) (expression_listed k e)
    where
      by : (g b c : Bool) → one_of g (both b (not c)) ≡ false → b ≡ true → c ≡ true
      by false true true h q = refl
      by false true false h q = true-false h
      by true b c h q = true-false h
      by false false c h q = true-false (sym q)

pub listed-call : (k : ℕ) → is_call_row k ≡ true → expression_fault k 2 ≡ false
unfolding is_call_expression if_eq
listed-call k h = rw (h, call-bare k h)

pub listed-import : (k : ℕ) → is_call_row k ≡ true → expression_fault k 3 ≡ false
unfolding is_call_expression if_eq
listed-import k h = rw (h, call-bare k h)
