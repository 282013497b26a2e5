-- One law for each way through a function of this crate.
-- Assumes nothing.
use mathlib.Core.Path.{◌≡◌, refl, sym, ◌∙◌, ap}
use mathlib.Core.List.{List}
use Prim.Native.Nat.{ℕ, suc, ◌+◌, ◌*◌, ◌-◌, ◌≤◌, ◌<◌}
use native.Mathlib.Numerals.{add-one, add-two, add-three, add-four, add_five, add_six, add_seven, add_eight}
use native.Mathlib.Omega.{arith}
use lib.ListN.{length, set, length-set}
use lib.Seq.{sets-eq}
use Rattle.base_prelude.specs.Lists.{zeros, cleared_from}
use Rattle.base_prelude.proofs.Choice.{tests}
use Rattle.res_skeleton.specs.Skeleton.{parameters_of, statement_of, words_of, put_row, rows_in, skeleton_of}
use Rattle.res_skeleton.specs.declared.SkeletonRow.{SkeletonRow}

module _ (kind operands : ℕ) where
  pub parameters-function : kind ≡ 1 → operands ≡ parameters_of kind operands
  unfolding parameters_of
  parameters-function e = search tests

  pub parameters-none : (kind ≡ 1 → ⊥) → 0 ≡ parameters_of kind operands
  unfolding parameters_of
  parameters-none e = search tests

pub ruleset parameters = (parameters-function, parameters-none)

add-nine : (n : ℕ) → n + 9 ≡ suc (suc (suc (suc (suc (suc (suc (suc (suc n))))))))
add-nine n = omega arith

add-ten : (n : ℕ) → n + 10 ≡ suc (suc (suc (suc (suc (suc (suc (suc (suc (suc n)))))))))
add-ten n = omega arith

abbrev stored : List ℕ → ℕ → SkeletonRow → List ℕ
stored k w r =
    set (set (set (set (set (set (set (set (set (set (set k w r.kind) (w + 1) r.func) (w + 2) r.scope) (w + 3) r.up) (w + 4) 0) (w + 5) r.b) (w + 6) 0) (w + 7) 0) (w + 8) 0) (w + 9) r.token) (w + 10) r.next

pub row_put : (k : List ℕ) (n : ℕ) (r : SkeletonRow) → n < 1024 → length k ≡ 27648 → stored k (n * 27) r ≡ put_row k n r
unfolding put_row
row_put k n r h l =
    rw (add-one, add-two, add-three, add-four, add_five, add_six, add_seven, add_eight, add-nine, add-ten) (sets-eq (words_of r) k (n * 27) (omega arith))

pub length-put : (k : List ℕ) (n : ℕ) (r : SkeletonRow) → n < 1024 → length k ≡ 27648 → length (put_row k n r) ≡ 27648
length-put k n r h l = ap length (sym (row_put k n r h l)) ∙ simp length-set l

-- the loop of `put_rows`
pub record Putting (k₀ x : List ℕ) (c : ℕ) (k : List ℕ) (n : ℕ) : Type 0 where
  pub long : length k ≡ 27648
  pub below : n ≤ c
  pub so_far : k ≡ rows_in k₀ x n

module _ (k₀ x : List ℕ) (c : ℕ) where
  pub putting-start : length k₀ ≡ 27648 → Putting k₀ x c k₀ 0
  unfolding rows_in
  putting-start l = record { long = l; below = omega arith; so_far = refl }

  module _ (k : List ℕ) (n : ℕ) (h : Putting k₀ x c k n) where
    pub putting-room : n < c → c ≤ 1024 → n < 1024
    putting-room l f = omega arith

    pub putting-more : (k' : List ℕ) → n < c → c ≤ 1024 → k' ≡ put_row k n (statement_of x n) → Putting k₀ x c k' (n + 1)
    unfolding rows_in
    putting-more k' l f e =
        record {
          long = ap length e ∙ length-put k n (statement_of x n) (omega arith) h.long;
          below = omega arith;
          so_far = rw (add-one n) (e ∙ ap (λ (y : List ℕ). put_row y n (statement_of x n)) h.so_far);
        }

    pub putting-done : c ≤ n → k ≡ rows_in k₀ x c
    putting-done l = let e : n ≡ c = omega (arith, h.below) in h.so_far ∙ ap (rows_in k₀ x) e

pub ruleset putting = (putting-start, putting-more, putting-done)

pub skeleton-is : (x k k' k'' : List ℕ) (c : ℕ) → length k ≡ 27648 → k' ≡ cleared_from k 0 → k'' ≡ rows_in k' x c → k'' ≡ skeleton_of x c
unfolding skeleton_of cleared_from
skeleton-is x k k' k'' c l e q =
    let z : length k - 0 ≡ 27648 = omega arith in
    q ∙ ap (λ (y : List ℕ). rows_in y x c) (e ∙ ap zeros z)
