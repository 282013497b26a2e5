-- Rows that call an imported function, and those that call none: what kinds and expression kinds they have.
-- Assumes nothing.
use mathlib.Core.Path.{◌≡◌, refl, sym, ◌∙◌, ap}
use mathlib.Core.Bool.{Bool, true, false}
use Prim.Native.Nat.{ℕ}
use native.Mathlib.Decide.{ℕ_discrete}
use borrow.Author.Tests.{eqb-true, ne_eqb}
use lib.Dec.{eqb}
use Rattle.base_prelude.specs.Choice.{pick, if_lt, if_eq, if_true}
use Rattle.base_prelude.proofs.Choice.{true-false, if_eq-yes, if_eq-no}
use Rattle.prog_tables.specs.Tests.{both, one_of}
use Rattle.prog_tables.specs.Statement.{has_expression, is_call_row, is_call, is_import, is_call_expression}

-- ---- rows that call no imported function

-- of kind k with expression kind e: a call by the kinds of 01 alone
unfoldable pub calls_by : ℕ → ℕ → Bool
calls_by k e = if_eq k 11 true (if_eq k 12 true (if_true (has_expression k) (eqb e 2) false))

module _ (k e : ℕ) (h : is_import k e ≡ false) where
  -- with the expression kind of such a call it has no expression and is no `call` or `tail-call`
  no_row : e ≡ 3 → is_call_row k ≡ false
  unfolding is_import if_true
  no_row q = by (is_call_row k) (has_expression k) (sym (if_eq-yes (if_true (is_call_row k) true (has_expression k)) false q) ∙ h)
    where
      by : (a b : Bool) → if_true a true b ≡ false → a ≡ false
      by true b d = d
      by false b d = refl

  no-expression : e ≡ 3 → has_expression k ≡ false
  unfolding is_import if_true
  no-expression q = by (is_call_row k) (has_expression k) (sym (if_eq-yes (if_true (is_call_row k) true (has_expression k)) false q) ∙ h)
    where
      by : (a b : Bool) → if_true a true b ≡ false → b ≡ false
      by true b d = true-false d
      by false b d = d

  pub plain-calls : is_call k e ≡ calls_by k e
  unfolding is_call calls_by if_eq if_true
  plain-calls =
      elim (ℕ_discrete e 3) [
        | yes q ↦ if_eq-yes false (calls_by k e) q ∙ by (eqb k 11) (eqb k 12) (has_expression k) (eqb e 2) (no_row q) (no-expression q)
        | no q ↦ if_eq-no false (calls_by k e) q
      ]
    where
      by : (a b c d : Bool) → one_of a b ≡ false → c ≡ false → false ≡ pick a true (pick b true (if_true c d false))
      by true b c d p q = true-false p
      by false true c d p q = true-false p
      by false false true d p q = true-false q
      by false false false d p q = refl

  pub plain-calling : one_of (eqb k 11) (both (has_expression k) (is_call_expression e)) ≡ one_of (eqb k 11) (both (has_expression k) (eqb e 2))
  unfolding is_call_expression if_eq
  plain-calling =
      elim (ℕ_discrete e 3) [
        | yes q ↦ by (has_expression k) (no-expression q)
        | no q ↦ ap (λ (b : Bool). one_of (eqb k 11) (both (has_expression k) (if_eq e 2 true b))) (ne_eqb e 3 q) ∙ ap (λ (b : Bool). one_of (eqb k 11) (both (has_expression k) b)) (two (eqb e 2))
      ]
    where
      two : (b : Bool) → pick b true false ≡ b
      two true = refl
      two false = refl

      by : (b : Bool) → b ≡ false → one_of (eqb k 11) (both b (is_call_expression e)) ≡ one_of (eqb k 11) (both b (eqb e 2))
      by true q = true-false q
      by false q = refl

  pub plain-return : one_of (eqb k 2) (both (eqb k 13) (if_true (is_call_expression e) false true)) ≡ one_of (eqb k 2) (both (eqb k 13) (if_true (eqb e 2) false true))
  unfolding is_call_expression has_expression if_lt if_eq
  plain-return =
      elim (ℕ_discrete e 3) [
        | yes q ↦ by (ne_eqb k 13 (λ (d : k ≡ 13). true-false (ap has_expression (sym d) ∙ no-expression q)))
        | no q ↦ ap (λ (b : Bool). one_of (eqb k 2) (both (eqb k 13) (if_true (if_eq e 2 true b) false true))) (ne_eqb e 3 q) ∙ ap (λ (b : Bool). one_of (eqb k 2) (both (eqb k 13) (if_true b false true))) (two (eqb e 2))
      ]
    where
      two : (b : Bool) → pick b true false ≡ b
      two true = refl
      two false = refl

      by : eqb k 13 ≡ false → one_of (eqb k 2) (both (eqb k 13) (if_true (is_call_expression e) false true)) ≡ one_of (eqb k 2) (both (eqb k 13) (if_true (eqb e 2) false true))
      by q = rw q

  pub no-import : has_expression k ≡ true → e ≡ 3 → ⊥
  no-import a q = true-false (sym a ∙ no-expression q)

-- ---- rows that call one

module _ (k e : ℕ) (h : is_import k e ≡ true) where
  pub import-expression : e ≡ 3
  unfolding is_import
  import-expression =
      elim (ℕ_discrete e 3) [
        | yes q ↦ q
        | no q ↦ true-false (sym h ∙ if_eq-no (if_true (is_call_row k) true (has_expression k)) false q)
      ]

  -- `call`, `tail-call`, or with an expression
  pub import-kinds : {P : Type 0} → (k ≡ 11 → P) → (k ≡ 12 → P) → (has_expression k ≡ true → P) → P
  unfolding is_import if_true
  import-kinds {P} a b c =
      by (eqb k 11) (eqb k 12) (has_expression k) (λ q. a (eqb-true k 11 q)) (λ q. b (eqb-true k 12 q)) c
      (sym (if_eq-yes (if_true (is_call_row k) true (has_expression k)) false import-expression) ∙ h)
    where
      by : (i j l : Bool) → (i ≡ true → P) → (j ≡ true → P) → (l ≡ true → P) → if_true (one_of i j) true l ≡ true → P
      by true j l x y z q = x refl
      by false true l x y z q = y refl
      by false false l x y z q = z q
