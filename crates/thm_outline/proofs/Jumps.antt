-- The test of an `else if..` line stands where the `if` stands.
-- Assumes nothing.
use mathlib.Core.Path.{◌≡◌, sym, ◌∙◌, ap}
use mathlib.Core.Bool.{Bool, true, false, not}
use Prim.Native.Nat.{ℕ, suc, ◌-◌, ◌≤◌, ◌<◌}
use native.Mathlib.Omega.{arith}
use borrow.Author.Tests.{eqb-true, eq-eqb, ltb-true}
use lib.Dec.{eqb, ltb, leb}
use Rattle.base_prelude.proofs.Choice.{either, true-false, if_true-yes, if_true-no, if_eq-no, if_lt-yes}
use Rattle.lang_kinds.specs.Grounds as ground
use Rattle.lang_kinds.specs.Nesting.{span, statement_in, stands_in, enters, leaves, ground_of}
use Rattle.std.specs.declared.ops.Range.{Range}
use Rattle.prog_tables.specs.Tests.{both}
use Rattle.prog_tables.specs.Statement.{Row, is_test}
use Rattle.prog_tables.specs.Nesting.{behind, open_before, ground_in, up_in, may_stand, stands}
use Rattle.prog_tables.proofs.Each.{both_left, both_right, given-then}
use Rattle.prog_tables.proofs.Nested.{not-true, here, fact, ground-some, ground-low, ground-high, open-some, small}

pub test-between : (k : ℕ) → is_test k ≡ true → (14 ≤ k) × (k < 20)
unfolding is_test
test-between k =
    either (λ (b : Bool). b ≡ true → (14 ≤ k) × (k < 20)) k 14 false (ltb k 20) (λ _ e. true-false (sym e)) (λ l e. (l, ltb-true k 20 e))

test-range : (k : ℕ) → is_test k ≡ true → stands_in k ≡ span ground.in_function ground.in_else_arm
unfolding stands_in statement_in
test-range k h =
    let b = test-between k h in
    if_eq-no _ _ (λ e. omega (arith, b.0)) ∙ if_lt-yes _ _ (omega (arith, b.1)) ∙ if_eq-no _ _ (λ e. omega (arith, b.0)) ∙ if_eq-no _ _ (λ e. omega (arith, b.0))
    ∙ if_eq-no _ _ (λ e. omega (arith, b.0)) ∙ if_eq-no _ _ (λ e. omega (arith, b.0)) ∙ if_lt-yes _ _ b.1

test-stands : (j k g : ℕ) → is_test j ≡ true → is_test k ≡ true → may_stand j g ≡ true → may_stand k g ≡ true
unfolding may_stand
test-stands j k g a b h =
    ap (λ (x : Range ℕ). both (leb x.start g) (ltb g x.end)) (test-range k b ∙ sym (test-range j a)) ∙ h

module _ (f : ℕ → Row) (c : ℕ) (ok : (n : ℕ) → n < c → stands f n ≡ true) (j : ℕ) (h : j < c) (e : (f j).kind ≡ 21) where
  jump-leaves : both (not (enters (f j).kind)) (leaves (f j).kind) ≡ true
  jump-leaves =
      given-then (eqb (f j).kind 21) (both (not (enters (f j).kind)) (leaves (f j).kind)) (fact f c ok j 6 h (omega arith)) (eq-eqb _ _ e)

  jump-range : both (eqb (stands_in (f j).kind).start 6) (eqb (stands_in (f j).kind).end 7) ≡ true
  jump-range =
      given-then (eqb (f j).kind 21) (both (eqb (stands_in (f j).kind).start 6) (eqb (stands_in (f j).kind).end 7)) (fact f c ok j 11 h (omega arith)) (eq-eqb _ _ e)

  pub jump-some : 1 ≤ open_before f j
  jump-some = open-some f c ok j h (λ q. omega arith)

  jump_low : open_before f j ≤ j
  jump_low = (small f c ok j (omega arith)).open-low

  arm-six : ground_of (f (open_before f j - 1)).kind ≡ 6
  arm-six =
      let lo : (stands_in (f j).kind).start ≡ 6 = eqb-true _ _ (both_left (eqb (stands_in (f j).kind).start 6) (eqb (stands_in (f j).kind).end 7) jump-range) in
      let hi : (stands_in (f j).kind).end ≡ 7 = eqb-true _ _ (both_right (eqb (stands_in (f j).kind).start 6) (eqb (stands_in (f j).kind).end 7) jump-range) in
      omega (arith, ground-low f c ok j h, ground-high f c ok j h, ground-some f c ok (open_before f j) jump-some)

  -- the arm before it is that of a test
  arm-test : is_test (f (open_before f j - 1)).kind ≡ true
  arm-test =
      given-then (eqb (ground_of (f (open_before f j - 1)).kind) 6) (is_test (f (open_before f j - 1)).kind)
      (fact f c ok (open_before f j - 1) 10 (omega (arith, jump-some, jump_low)) (omega arith)) (eq-eqb _ _ arm-six)

  test-stays : (p : ℕ) → p < c → is_test (f p).kind ≡ true → (f p).up ≡ open_before f p
  unfolding up_in
  test-stays p l t =
      let a = given-then (is_test (f p).kind) (both (enters (f p).kind) (both (not (leaves (f p).kind)) (both (eqb (ground_of (f p).kind) 6) (not (eqb (f p).kind 1)))))
      (fact f c ok p 4 l (omega arith)) t in
      let b = both_left (not (leaves (f p).kind)) _ (both_right (enters (f p).kind) _ a) in
      (here f c ok p l).up_is ∙ if_true-no (f (open_before f p - 1)).up (open_before f p) (not-true (leaves (f p).kind) b)

  -- behind the jump is open what was open before its `if`
  jump-open : open_before f (suc j) ≡ open_before f (open_before f j - 1)
  unfolding open_before behind up_in
  jump-open =
      if_true-no (suc j) (f j).up (not-true _ (both_left (not (enters (f j).kind)) (leaves (f j).kind) jump-leaves))
      ∙ (here f c ok j h).up_is ∙ if_true-yes (f (open_before f j - 1)).up (open_before f j) (both_right (not (enters (f j).kind)) (leaves (f j).kind) jump-leaves)
      ∙ test-stays (open_before f j - 1) (omega (arith, jump-some, jump_low)) arm-test

  pub jump-ground : (k : ℕ) → is_test k ≡ true → may_stand k (ground_in f (open_before f (suc j))) ≡ true
  jump-ground k t =
      rw jump-open
      (test-stands (f (open_before f j - 1)).kind k (ground_in f (open_before f (open_before f j - 1))) arm-test t
      (here f c ok (open_before f j - 1) (omega (arith, jump-some, jump_low))).ground)
