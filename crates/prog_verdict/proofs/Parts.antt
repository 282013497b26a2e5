-- The tests of a row are those of nesting, those that need no frame word, and those of frames and scope.
-- Assumes nothing.
use mathlib.Core.Path.{◌≡◌, refl, sym, ◌∙◌, ap}
use mathlib.Core.Bool.{Bool, true, false}
use mathlib.Core.List.{List, [], ◌∷◌}
use Prim.Native.Nat.{ℕ, zero, suc, ◌<◌, ◌≤◌}
use native.Mathlib.Omega.{arith}
use lib.ListN.{length, get_or}
use Rattle.base_prelude.proofs.Choice.{true-false}
use Rattle.prog_tables.specs.Tests.{both, all, all_below}
use Rattle.prog_tables.specs.Program.{Program}
use Rattle.prog_tables.specs.Nesting.{stands, all_closed}
use Rattle.prog_tables.specs.WellFormed.{shallow, aimed, jumps, calls, shaped, operands_good, address_good, sets_local, framed, few_locals, forward_calls, row_tests, row_good}
use Rattle.prog_tables.proofs.Each.{both_left, both_right, both_true, all-at, below_at}
use Rattle.prog_rules.specs.Rules.{rule_tests, ruled}
use Rattle.prog_chains.specs.FrameTests.{frame_tests, frame_good}

-- two tests that hold together are the same
pub same_test : (a b : Bool) → (a ≡ true → b ≡ true) → (b ≡ true → a ≡ true) → a ≡ b
same_test true true f g = refl
same_test true false f g = sym (f refl)
same_test false true f g = g refl
same_test false false f g = refl

pub below_all : (p : ℕ → Bool) (n : ℕ) → ((i : ℕ) → i < n → p i ≡ true) → all_below p n ≡ true
unfolding all_below
below_all p zero h = refl
below_all p (suc n) h = both_true (p n) (all_below p n) (h n (omega arith)) (below_all p n (λ i l. h i (omega arith)))

module _ (p : Program) (n : ℕ) where
  rule : all (row_tests p n) ≡ true → (k : ℕ) → k < length (row_tests p n) → get_or (row_tests p n) k true ≡ true
  rule h k l = all-at (row_tests p n) k h l

  pub row-stands : row_good p n ≡ true → stands p.rows n ≡ true
  unfolding row_tests
  row-stands h = rule h 0 (omega arith)

  pub row-shallow : row_good p n ≡ true → shallow p.rows n ≡ true
  unfolding row_tests
  row-shallow h = rule h 1 (omega arith)

  pub row-ruled : row_good p n ≡ true → ruled p n ≡ true
  unfolding row_tests rule_tests all
  row-ruled h =
      let a : shallow p.rows n ≡ true = rule h 1 (omega arith) in
      let b : aimed p.rows p.count n ≡ true = rule h 2 (omega arith) in
      let c : jumps p n ≡ true = rule h 3 (omega arith) in
      let d : calls p n ≡ true = rule h 4 (omega arith) in
      let e : shaped p.rows n ≡ true = rule h 5 (omega arith) in
      let f : forward_calls p n ≡ true = rule h 11 (omega arith) in
      rw (a, b, c, d, e, f)

  pub row-framed : row_good p n ≡ true → frame_good p n ≡ true
  unfolding row_tests frame_tests all
  row-framed h =
      let a : operands_good p n ≡ true = rule h 6 (omega arith) in
      let b : address_good p n ≡ true = rule h 7 (omega arith) in
      let c : sets_local p.rows n ≡ true = rule h 8 (omega arith) in
      let d : framed p.rows p.count n ≡ true = rule h 9 (omega arith) in
      let e : few_locals p.rows n ≡ true = rule h 10 (omega arith) in
      rw (a, b, c, d, e)

  pub row-whole : stands p.rows n ≡ true → ruled p n ≡ true → frame_good p n ≡ true → row_good p n ≡ true
  unfolding row_tests rule_tests frame_tests all
  row-whole s r f =
      let r1 : shallow p.rows n ≡ true = all-at (rule_tests p n) 0 r (omega arith) in
      let r2 : aimed p.rows p.count n ≡ true = all-at (rule_tests p n) 1 r (omega arith) in
      let r3 : jumps p n ≡ true = all-at (rule_tests p n) 2 r (omega arith) in
      let r4 : calls p n ≡ true = all-at (rule_tests p n) 3 r (omega arith) in
      let r5 : shaped p.rows n ≡ true = all-at (rule_tests p n) 4 r (omega arith) in
      let r6 : forward_calls p n ≡ true = all-at (rule_tests p n) 5 r (omega arith) in
      let f1 : operands_good p n ≡ true = all-at (frame_tests p n) 0 f (omega arith) in
      let f2 : address_good p n ≡ true = all-at (frame_tests p n) 1 f (omega arith) in
      let f3 : sets_local p.rows n ≡ true = all-at (frame_tests p n) 2 f (omega arith) in
      let f4 : framed p.rows p.count n ≡ true = all-at (frame_tests p n) 3 f (omega arith) in
      let f5 : few_locals p.rows n ≡ true = all-at (frame_tests p n) 4 f (omega arith) in
      rw (s, r1, r2, r3, r4, r5, f1, f2, f3, f4, f5, r6)

module _ (p : Program) (c : ℕ) where
  -- nesting, of all rows
  abbrev pub nested : Bool
  nested = both (both (all_closed p.rows c) (all_below (stands p.rows) c)) (all_below (shallow p.rows) c)

  pub rows-parts : both nested (both (all_below (ruled p) c) (all_below (frame_good p) c)) ≡ both (all_closed p.rows c) (all_below (row_good p) c)
  rows-parts = same_test (both nested (both (all_below (ruled p) c) (all_below (frame_good p) c))) (both (all_closed p.rows c) (all_below (row_good p) c)) to fro
    where
      to : both nested (both (all_below (ruled p) c) (all_below (frame_good p) c)) ≡ true → both (all_closed p.rows c) (all_below (row_good p) c) ≡ true
      to h =
          let n : nested ≡ true = both_left nested (both (all_below (ruled p) c) (all_below (frame_good p) c)) h in
          let m : both (all_below (ruled p) c) (all_below (frame_good p) c) ≡ true = both_right nested (both (all_below (ruled p) c) (all_below (frame_good p) c)) h in
          let s : both (all_closed p.rows c) (all_below (stands p.rows) c) ≡ true = both_left (both (all_closed p.rows c) (all_below (stands p.rows) c)) (all_below (shallow p.rows) c) n in
          both_true (all_closed p.rows c) (all_below (row_good p) c) (both_left (all_closed p.rows c) (all_below (stands p.rows) c) s)
          (below_all (row_good p) c
          (λ i l.
          row-whole p i (below_at (stands p.rows) c i (both_right (all_closed p.rows c) (all_below (stands p.rows) c) s) l)
          (below_at (ruled p) c i (both_left (all_below (ruled p) c) (all_below (frame_good p) c) m) l)
          (below_at (frame_good p) c i (both_right (all_below (ruled p) c) (all_below (frame_good p) c) m) l)))

      fro : both (all_closed p.rows c) (all_below (row_good p) c) ≡ true → both nested (both (all_below (ruled p) c) (all_below (frame_good p) c)) ≡ true
      fro h =
          let g : (i : ℕ) → i < c → row_good p i ≡ true = λ i l. below_at (row_good p) c i (both_right (all_closed p.rows c) (all_below (row_good p) c) h) l in
          both_true nested (both (all_below (ruled p) c) (all_below (frame_good p) c))
          (both_true (both (all_closed p.rows c) (all_below (stands p.rows) c)) (all_below (shallow p.rows) c)
          (both_true (all_closed p.rows c) (all_below (stands p.rows) c) (both_left (all_closed p.rows c) (all_below (row_good p) c) h) (below_all (stands p.rows) c (λ i l. row-stands p i (g i l))))
          (below_all (shallow p.rows) c (λ i l. row-shallow p i (g i l))))
          (both_true (all_below (ruled p) c) (all_below (frame_good p) c) (below_all (ruled p) c (λ i l. row-ruled p i (g i l))) (below_all (frame_good p) c (λ i l. row-framed p i (g i l))))
