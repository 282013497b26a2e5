-- Kinds of tests and operators lie in a range; the number behind a number.
-- Assumes nothing.
use mathlib.Core.Path.{◌≡◌, sym}
use mathlib.Core.Bool.{Bool, true, false}
use Prim.Native.Nat.{ℕ, suc, ◌+◌, ◌<◌, ◌≤◌}
use native.Mathlib.Omega.{arith}
use lib.Dec.{ltb}
use borrow.Author.Tests.{ltb-true}
use Rattle.base_prelude.proofs.Choice.{true-false, either}
use Rattle.prog_tables.specs.Statement.{is_test, is_operator}

pub one_more_lem : (n : ℕ) → n + 1 ≡ suc n
one_more_lem n = omega arith

pub test-least : (k : ℕ) → is_test k ≡ true → 14 ≤ k
unfolding is_test
test-least k e = either (λ (b : Bool). b ≡ true → 14 ≤ k) k 14 false (ltb k 20) (λ l q. true-false (sym q)) (λ l q. l) e

pub test-most : (k : ℕ) → is_test k ≡ true → k < 20
unfolding is_test
test-most k e = either (λ (b : Bool). b ≡ true → k < 20) k 14 false (ltb k 20) (λ l q. true-false (sym q)) (λ l q. ltb-true k 20 q) e

pub operator-most : (e : ℕ) → is_operator e ≡ true → e < 52
unfolding is_operator
operator-most e h = either (λ (b : Bool). b ≡ true → e < 52) e 33 false (ltb e 52) (λ l q. true-false (sym q)) (λ l q. ltb-true e 52 q) h
