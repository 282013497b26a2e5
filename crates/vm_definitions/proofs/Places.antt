-- Where a row goes is no `function` line; and which blocks are open behind a row.
-- Assumes nothing.
use mathlib.Core.Path.{◌≡◌, refl, sym, ◌∙◌, ap}
use Prim.Native.Nat.{ℕ, zero, suc, ◌-◌, ◌<◌, ◌≤◌}
use mathlib.Core.Bool.{Bool, true, false, not}
use mathlib.Core.List.{List, [], ◌∷◌}
use native.Mathlib.Decide.{ℕ_discrete}
use native.Mathlib.Omega.{arith}
use borrow.Author.Tests.{eqb-true, eq-eqb, eqb-false, not-true}
use lib.Dec.{eqb, ltb, leb}
use Rattle.base_prelude.specs.Choice.{pick, if_eq, if_true}
use Rattle.base_prelude.proofs.Choice.{true-false, either-eq, either_true, if_eq-yes, if_eq-no, if_true-no}
use Rattle.base_limits.specs.Limits.{parameters}
use Rattle.base_limits.specs.declared.Width.{Width}
use Rattle.prog_tables.specs.Layout.{import_label}
use Rattle.prog_tables.specs.Tests.{both, all, first_from}
use Rattle.prog_tables.specs.Statement.{Row, is_test}
use Rattle.prog_tables.specs.Label.{Tables, rows, labels_of, is_data, is_function_label}
use Rattle.prog_tables.specs.Program.{program_from}
use Rattle.prog_tables.specs.Nesting.{encloses, depth_of, next_arm, end_if_of, past_arm, target_of, has_target, is_arm, is_end_if, follows_jump}
use Rattle.prog_tables.specs.WellFormed.{aimed, jumps, labelled, names, WellFormed}
use Rattle.prog_tables.proofs.Each.{both_left, both_right, given-then, all-at, aimed-at, jumps_at, names_at}
use Rattle.prog_tables.proofs.Whole.{Found, some-found}
use Rattle.prog_laws.proofs.Next.{func-line, func-self}
use Rattle.prog_laws.proofs.Targets.{target-scope}

-- ---- a search ends at or behind its first number

first-low : (p : ℕ → Bool) (left i : ℕ) → i ≤ first_from p left i
unfolding first_from
first-low p zero i = omega arith
first-low p (suc left) i = split (p i) (first-low p left (suc i))
  where
    split : (b : Bool) → suc i ≤ first_from p left (suc i) → i ≤ pick b i (first_from p left (suc i))
    split true h = omega arith
    split false h = omega arith

past-low : (f : ℕ → Row) (r : ℕ) → r ≤ past_arm f r
unfolding past_arm
past-low f r = either-eq (λ (x : ℕ). r ≤ x) (f r).kind 22 r (suc r) (λ e. omega arith) (λ e. omega arith)

target-after : (f : ℕ → Row) (c n : ℕ) → n < target_of f c n
unfolding target_of next_arm end_if_of
target-after f c n =
    either_true (λ (x : ℕ). n < x) (is_test (f n).kind) (past_arm f (first_from (is_arm f (f n).up) (c - suc n) (suc n))) (first_from (is_end_if f (f n).up) (c - suc n) (suc n))
    (λ e. omega (arith, past-low f (first_from (is_arm f (f n).up) (c - suc n) (suc n)), first-low (is_arm f (f n).up) (c - suc n) (suc n)))
    (λ e. omega (arith, first-low (is_end_if f (f n).up) (c - suc n) (suc n)))

no-data : is_data 5 ≡ false
unfolding is_data if_eq
no-data = refl

no-function-label : is_function_label 5 ≡ false
unfolding is_function_label if_eq
no-function-label = refl

module _ (w : Width) (t : Tables) (good : WellFormed (program_from w t)) (n : ℕ) (h : n < t.count) where
  -- ---- targets

  pub target-inside : has_target (rows t n).kind ≡ true → (rows t (rows t n).a).kind ≡ 1 → ⊥
  unfolding aimed
  target-inside e d =
      let a : (rows t n).a ≡ target_of (rows t) t.count n = eqb-true _ _ (given-then (has_target (rows t n).kind) (eqb (rows t n).a (target_of (rows t) t.count n)) (aimed-at w t good n h) e) in
      omega (
        arith,
        a,
        target-after (rows t) t.count n,
        func-self w t good (rows t n).a (target-scope w t good n h e).within d,
        (target-scope w t good n h e).same,
        (func-line w t good n h).before,
      )

  goto-tests : List Bool
  goto-tests =
      ltb (rows t n).a t.count
      ∷ eqb (rows t (rows t n).a).func (rows t n).func
      ∷ eqb (rows t (rows t n).a).scope (rows t n).scope
      ∷ labelled (labels_of t) t.label_count (λ k. eqb k 5) (rows t n).a
      ∷ []

  abbrev line : ℕ → List Bool
  line i = eqb (labels_of t i).kind 5 ∷ not (eqb (rows t (labels_of t i).number).kind 1) ∷ not (follows_jump (rows t) (labels_of t i).number) ∷ []

  -- "`goto` takes a statement's label", which names no `function` line
  pub goto-inside : (rows t n).kind ≡ 10 → (rows t (rows t n).a).kind ≡ 1 → ⊥
  unfolding jumps goto-tests labelled names
  goto-inside e d =
      let q : all goto-tests ≡ true = given-then (eqb (rows t n).kind 10) (all goto-tests) (jumps_at w t good n h) (eq-eqb _ _ e) in
      seen (some-found (λ i. both (eqb (labels_of t i).kind 5) (eqb (labels_of t i).number (rows t n).a)) t.label_count (all-at goto-tests 3 q (omega arith)))
    where
      seen : Found (λ i. both (eqb (labels_of t i).kind 5) (eqb (labels_of t i).number (rows t n).a)) t.label_count → ⊥
      seen x =
          let k : (labels_of t x.i).kind ≡ 5 = eqb-true _ _ (both_left (eqb (labels_of t x.i).kind 5) (eqb (labels_of t x.i).number (rows t n).a) x.passes) in
          let v : (labels_of t x.i).number ≡ (rows t n).a = eqb-true _ _ (both_right (eqb (labels_of t x.i).kind 5) (eqb (labels_of t x.i).number (rows t n).a) x.passes) in
          let a : both (ltb (labels_of t x.i).number t.count) (if_true (is_function_label (labels_of t x.i).kind) (eqb (rows t (labels_of t x.i).number).kind 1) (all (line x.i))) ≡ true =
          sym (if_eq-no (leb (labels_of t x.i).arguments parameters) _ (λ (z : (labels_of t x.i).kind ≡ import_label). omega arith))
          ∙ sym (if_true-no (leb (labels_of t x.i).number t.data_length) _ (ap is_data k ∙ no-data)) ∙ names_at w t good x.i x.below in
          let b : all (line x.i) ≡ true =
          sym (if_true-no (eqb (rows t (labels_of t x.i).number).kind 1) (all (line x.i)) (ap is_function_label k ∙ no-function-label))
          ∙ both_right (ltb (labels_of t x.i).number t.count) (if_true (is_function_label (labels_of t x.i).kind) (eqb (rows t (labels_of t x.i).number).kind 1) (all (line x.i))) a in
          eqb-false _ _ (not-true _ (all-at (line x.i) 1 b (omega arith))) (ap (λ (y : ℕ). (rows t y).kind) v ∙ d)

-- ---- open blocks

module _ (f : ℕ → Row) where
  -- frame b is around frame s: it is s, or s is a block in a frame that b is around
  pub around-cases : {P : Type 0} (k b s : ℕ) → encloses f (suc k) b s ≡ true → (s ≡ b → P) → ((f s).kind ≡ 3 → encloses f k b (f s).scope ≡ true → P) → P
  unfolding encloses
  around-cases k b s e y z =
      elim (ℕ_discrete s b) [
        | yes d ↦ y d
        | no d ↦ elim (ℕ_discrete (f s).kind 3) [
          | yes q ↦ z q
              (sym (if_eq-yes (encloses f k b (f s).scope) false q) ∙ sym (if_eq-no true (if_eq (f s).kind 3 (encloses f k b (f s).scope) false) d) ∙ e)
          | no q ↦ true-false (sym e ∙ if_eq-no true (if_eq (f s).kind 3 (encloses f k b (f s).scope) false) d ∙ if_eq-no (encloses f k b (f s).scope) false q)
        ]
      ]

  pub around_here : (k b s : ℕ) → s ≡ b → encloses f (suc k) b s ≡ true
  unfolding encloses
  around_here k b s d = if_eq-yes true (if_eq (f s).kind 3 (encloses f k b (f s).scope) false) d

  pub around-out : (k b s : ℕ) → (f s).kind ≡ 3 → encloses f k b (f s).scope ≡ true → encloses f (suc k) b s ≡ true
  unfolding encloses
  around-out k b s q e =
      elim (ℕ_discrete s b) [
        | yes d ↦ if_eq-yes true (if_eq (f s).kind 3 (encloses f k b (f s).scope) false) d
        | no d ↦ if_eq-no true (if_eq (f s).kind 3 (encloses f k b (f s).scope) false) d ∙ if_eq-yes (encloses f k b (f s).scope) false q ∙ e
      ]

  around-zero : (b s : ℕ) → encloses f zero b s ≡ true → s ≡ b
  unfolding encloses
  around-zero b s e = eqb-true s b e

  pub around-more : (k b s : ℕ) → encloses f k b s ≡ true → encloses f (suc k) b s ≡ true
  around-more zero b s e = around_here zero b s (around-zero b s e)
  around-more (suc k) b s e = around-cases k b s e (around_here (suc k) b s) (λ q d. around-out (suc k) b s q (around-more k b (f s).scope d))

  depth-out : (k s : ℕ) → (f s).kind ≡ 3 → depth_of f (suc k) s ≡ suc (depth_of f k (f s).scope)
  unfolding depth_of
  depth-out k s q = if_eq-yes (suc (depth_of f k (f s).scope)) 0 q

  pub around-less : (k b s : ℕ) → depth_of f (suc k) s ≤ k → encloses f (suc (suc k)) b s ≡ true → encloses f (suc k) b s ≡ true
  around-less zero b s h e = around-cases 1 b s e (around_here zero b s) (λ q d. absurd (omega (arith, depth-out zero s q)))
  around-less (suc k) b s h e =
      around-cases (suc (suc k)) b s e (around_here (suc k) b s)
      (λ q d. around-out (suc k) b s q (around-less k b (f s).scope (omega (arith, depth-out (suc k) s q)) d))

  -- no block is around a function
  pub around-function : (k b s : ℕ) → (f s).kind ≡ 1 → (f b).kind ≡ 3 → encloses f (suc k) b s ≡ true → ⊥
  around-function k b s q r e = around-cases k b s e (λ d. omega (arith, ap (λ (x : ℕ). (f x).kind) d)) (λ d u. omega arith)

  -- the frame outside a block, of at most 16 blocks
  pub around-outside : (b s : ℕ) → (f s).kind ≡ 3 → depth_of f 17 s ≤ 16 → encloses f 17 b (f s).scope ≡ true → encloses f 17 b s ≡ true
  around-outside b s q h e = around-out 16 b s q (around-less 15 b (f s).scope (omega (arith, depth-out 16 s q)) e)
