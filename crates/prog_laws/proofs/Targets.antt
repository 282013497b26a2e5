-- Where a row goes: to a row of its own function and frame.
-- Assumes nothing.
use mathlib.Core.Path.{◌≡◌, refl, sym, ◌∙◌, ap}
use mathlib.Core.Bool.{Bool, true, false}
use mathlib.Core.List.{List, [], ◌∷◌}
use Prim.Native.Nat.{ℕ, zero, suc, ◌+◌, ◌-◌, ◌<◌, ◌≤◌}
use native.Mathlib.Omega.{arith}
use borrow.Author.Tests.{eqb-true, eq-eqb, leb-true, ltb-true}
use lib.Dec.{eqb, ltb, leb}
use Rattle.base_prelude.specs.Choice.{pick, if_eq}
use Rattle.base_prelude.proofs.Choice.{true-false, either, either-eq, either_true}
use Rattle.base_limits.specs.declared.Width.{Width}
use Rattle.prog_tables.specs.Tests.{both, all, first_from}
use Rattle.prog_tables.specs.Statement.{Row, is_test}
use Rattle.prog_tables.specs.Label.{Tables, rows, labels_of}
use Rattle.prog_tables.specs.Program.{program_from}
use Rattle.prog_tables.specs.Nesting.{open_before, stands, is_arm, is_end_if, next_arm, end_if_of, past_arm, target_of, has_target}
use Rattle.prog_tables.specs.WellFormed.{aimed, labelled, jumps, WellFormed}
use Rattle.prog_tables.proofs.Each.{both_left, both_right, given-then, all-at, aimed-at, jumps_at}
use Rattle.prog_tables.proofs.Targets.{Aimed}
use Rattle.prog_tables.proofs.Sound.{ok, shut, target-good}
use Rattle.prog_laws.proofs.Next.{frame_in, around, scope-other}
use Rattle.prog_tables.proofs.Ranges.{test-least}

-- a search finds what passes, or ends behind the last number
first-or : {P : Type 0} (p : ℕ → Bool) (left i : ℕ) → (p (first_from p left i) ≡ true → P) → (first_from p left i ≡ i + left → P) → P
unfolding first_from
first-or p zero i y z = z (omega arith)
first-or p (suc left) i y z = split (p i) refl (λ q a b. first-or p left (suc i) a b) y z
  where
    split : {P : Type 0} (b : Bool) → p i ≡ b → ((p i ≡ false) → (p (first_from p left (suc i)) ≡ true → P) → (first_from p left (suc i) ≡ suc i + left → P) → P)
        → (p (pick b i (first_from p left (suc i))) ≡ true → P) → (pick b i (first_from p left (suc i)) ≡ i + suc left → P) → P
    split true e on y z = y e
    split false e on y z = on e y (λ d. z (omega arith))

-- an arm's kind, and one with a target, is a test or above
target-low : (k : ℕ) → has_target k ≡ true → 14 ≤ k
unfolding has_target
target-low k e =
    either_true (λ (b : Bool). b ≡ true → 14 ≤ k) (is_test k) true (if_eq k 20 true (eqb k 21)) (λ d q. test-least k d)
    (λ d q. either-eq (λ (b : Bool). b ≡ true → 14 ≤ k) k 20 true (eqb k 21) (λ r s. omega arith) (λ r s. omega (arith, eqb-true k 21 s)) q) e

module _ (f : ℕ → Row) (c : ℕ) (ok : (n : ℕ) → n < c → stands f n ≡ true) (shut : open_before f c ≡ 0) where
  -- rows of one `if` are in one frame
  arms-scope : (n r : ℕ) → n < c → r < c → 14 ≤ (f n).kind → 14 ≤ (f r).kind → (f r).up ≡ (f n).up → (f r).scope ≡ (f n).scope
  arms-scope n r h l a b e =
      sym ((around f c ok c (omega arith) r l (λ d. omega arith) (λ d. omega arith)).frame (λ d. omega arith))
      ∙ ap (frame_in f) e
      ∙ (around f c ok c (omega arith) n h (λ d. omega arith) (λ d. omega arith)).frame (λ d. omega arith)

  -- behind an arm
  past-scope : (n r : ℕ) → n < c → 14 ≤ (f n).kind → past_arm f r < c → is_arm f (f n).up r ≡ true → (f (past_arm f r)).scope ≡ (f n).scope
  unfolding past_arm is_arm
  past-scope n r h a l p =
      let u : (f r).up ≡ (f n).up = eqb-true _ _ (both_left (eqb (f r).up (f n).up) (both (leb 20 (f r).kind) (leb (f r).kind 22)) p) in
      let k : 20 ≤ (f r).kind = leb-true _ _ (both_left (leb 20 (f r).kind) (leb (f r).kind 22) (both_right (eqb (f r).up (f n).up) (both (leb 20 (f r).kind) (leb (f r).kind 22)) p)) in
      let b : r < c = either-eq (λ (x : ℕ). x < c → r < c) (f r).kind 22 r (suc r) (λ d q. q) (λ d q. omega arith) l in
      let s : (f r).scope ≡ (f n).scope = arms-scope n r h b a (omega arith) u in
      either-eq (λ (x : ℕ). (f x).scope ≡ (f n).scope) (f r).kind 22 r (suc r) (λ d. s)
      (λ d. scope-other f c ok shut r b (λ z. omega arith) (λ z. omega arith) (λ z. omega arith) (λ z. omega arith) ∙ s)

  past-low : (r : ℕ) → past_arm f r < c → r < c
  unfolding past_arm
  past-low r l = either-eq (λ (x : ℕ). x < c → r < c) (f r).kind 22 r (suc r) (λ d q. q) (λ d q. omega arith) l

  test-scope : (n : ℕ) → n < c → 14 ≤ (f n).kind → past_arm f (next_arm f c n) < c → (f (past_arm f (next_arm f c n))).scope ≡ (f n).scope
  unfolding next_arm
  test-scope n h a l =
      first-or (is_arm f (f n).up) (c - suc n) (suc n) (past-scope n (first_from (is_arm f (f n).up) (c - suc n) (suc n)) h a l)
      (λ d. absurd (omega (arith, past-low (first_from (is_arm f (f n).up) (c - suc n) (suc n)) l)))

  end-scope : (n : ℕ) → n < c → 14 ≤ (f n).kind → end_if_of f c n < c → (f (end_if_of f c n)).scope ≡ (f n).scope
  unfolding end_if_of is_end_if
  end-scope n h a l =
      first-or (λ i. both (eqb (f i).up (f n).up) (eqb (f i).kind 22)) (c - suc n) (suc n) (found (first_from (λ i. both (eqb (f i).up (f n).up) (eqb (f i).kind 22)) (c - suc n) (suc n)) l)
      (λ d. absurd (omega arith))
    where
      found : (r : ℕ) → r < c → both (eqb (f r).up (f n).up) (eqb (f r).kind 22) ≡ true → (f r).scope ≡ (f n).scope
      found r b p =
          let k : (f r).kind ≡ 22 = eqb-true _ _ (both_right (eqb (f r).up (f n).up) (eqb (f r).kind 22) p) in
          arms-scope n r h b a (omega arith) (eqb-true _ _ (both_left (eqb (f r).up (f n).up) (eqb (f r).kind 22) p))

  aimed-scope : (n : ℕ) → n < c → 14 ≤ (f n).kind → target_of f c n < c → (f (target_of f c n)).scope ≡ (f n).scope
  unfolding target_of
  aimed-scope n h a l =
      either_true (λ (x : ℕ). x < c → (f x).scope ≡ (f n).scope) (is_test (f n).kind) (past_arm f (next_arm f c n)) (end_if_of f c n) (λ e. test-scope n h a) (λ e. end-scope n h a) l

-- ---- well-formed tables

module _ (bits : Width) (t : Tables) (w : WellFormed (program_from bits t)) (n : ℕ) (h : n < t.count) where
  -- the target of row n
  pub record Target : Type 0 where
    pub within : (rows t n).a < t.count
    pub same : (rows t (rows t n).a).func ≡ (rows t n).func
    pub scope : (rows t (rows t n).a).scope ≡ (rows t n).scope

  goto-tests : List Bool
  goto-tests =
      ltb (rows t n).a t.count
      ∷ eqb (rows t (rows t n).a).func (rows t n).func
      ∷ eqb (rows t (rows t n).a).scope (rows t n).scope
      ∷ labelled (labels_of t) t.label_count (λ k. eqb k 5) (rows t n).a
      ∷ []

  pub goto-target : (rows t n).kind ≡ 10 → Target
  unfolding jumps goto-tests
  goto-target e =
      let q : all goto-tests ≡ true = given-then (eqb (rows t n).kind 10) (all goto-tests) (jumps_at bits t w n h) (eq-eqb _ _ e) in
      record {
        within = ltb-true _ _ (all-at goto-tests 0 q (omega arith));
        same = eqb-true _ _ (all-at goto-tests 1 q (omega arith));
        scope = eqb-true _ _ (all-at goto-tests 2 q (omega arith));
      }

  -- that of a test, `else` or else-if jump
  pub target-scope : has_target (rows t n).kind ≡ true → Target
  unfolding aimed
  target-scope e =
      let a : (rows t n).a ≡ target_of (rows t) t.count n = eqb-true _ _ (given-then (has_target (rows t n).kind) (eqb (rows t n).a (target_of (rows t) t.count n)) (aimed-at bits t w n h) e) in
      let x : Aimed (rows t) t.count (ok bits t w) (shut bits t w) n (rows t n).a = target-good bits t w n h e in
      record {
        within = x.within;
        same = x.same;
        scope =
            ap (λ (y : ℕ). (rows t y).scope) a
            ∙ aimed-scope (rows t) t.count (ok bits t w) (shut bits t w) n h (target-low (rows t n).kind e) (omega (arith, a, x.within));
      }
