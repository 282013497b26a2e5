-- The ways through the tests of kinds: operands of a row, labels of data.
-- Assumes nothing.
use mathlib.Core.Path.{◌≡◌}
use mathlib.Core.Bool.{Bool, true, false, not}
use Prim.Native.Nat.{ℕ, ◌<◌, ◌≤◌}
use native.Mathlib.Decide.{ℕ_discrete}
use native.Mathlib.Omega.{arith}
use lib.Dec.{eqb}
use borrow.Author.Tests.{eq-eqb, ne_eqb, le-leb, lt-leb}
use Rattle.base_prelude.specs.Choice.{if_eq}
use Rattle.prog_tables.specs.Statement.{has_expression, is_test}
use Rattle.prog_tables.specs.Label.{is_data}
use Rattle.prog_tables.specs.WellFormed.{has_operands}

module _ (k : ℕ) (b : Bool) (e : b ≡ has_expression k) where
  pub operands-expression : b ≡ true → true ≡ has_operands k
  unfolding has_operands
  operands-expression h = rw (← e, h)

  module _ (v : Bool) (h : b ≡ false) (d : v ≡ is_test k) where
    pub operands-test : v ≡ true → true ≡ has_operands k
    unfolding has_operands
    operands-test q = rw (← e, h, ← d, q)

    pub operands-low : v ≡ false → k < 8 → false ≡ has_operands k
    unfolding has_operands
    operands-low q l = rw (← e, h, ← d, q, lt-leb _ _ l)

    pub operands-high : v ≡ false → 8 ≤ k → 12 < k → false ≡ has_operands k
    unfolding has_operands
    operands-high q l m = rw (← e, h, ← d, q, le-leb _ _ l, lt-leb _ _ m)

    pub operands-goto : v ≡ false → 8 ≤ k → k ≤ 12 → not (eqb k 10) ≡ has_operands k
    unfolding has_operands
    operands-goto q l m = rw (← e, h, ← d, q, le-leb _ _ l, le-leb _ _ m)

pub ruleset operands = (operands-expression, operands-test, operands-low, operands-high, operands-goto)

module _ (k : ℕ) where
  pub data-in : 1 ≤ k → k ≤ 2 → true ≡ is_data k
  unfolding is_data if_eq
  data-in h g =
      elim (ℕ_discrete k 1) [
        | yes e ↦ rw (eq-eqb _ _ e)
        | no e ↦ let z : k ≡ 2 = omega arith in rw (ne_eqb _ _ e, eq-eqb _ _ z)
      ]

  pub data-below : k < 1 → false ≡ is_data k
  unfolding is_data if_eq
  data-below h = rw (ne_eqb k 1 (omega arith), ne_eqb k 2 (omega arith))

  pub data-above : 2 < k → false ≡ is_data k
  unfolding is_data if_eq
  data-above h = rw (ne_eqb k 1 (omega arith), ne_eqb k 2 (omega arith))

pub ruleset data-kinds = (data-in, data-below, data-above)
