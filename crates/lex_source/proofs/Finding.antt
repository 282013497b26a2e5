-- The loop of `find_name`.
-- Assumes nothing.
use mathlib.Core.Path.{◌≡◌, refl, sym, ◌∙◌, ap}
use mathlib.Core.Bool.{Bool, true, false}
use mathlib.Core.List.{List}
use Prim.Native.Nat.{ℕ, zero, suc, ◌+◌, ◌-◌, ◌≤◌, ◌<◌}
use native.Mathlib.Omega.{arith}
use Rattle.base_prelude.specs.Choice.{if_true}
use Rattle.base_prelude.proofs.Choice.{if_true-yes, if_true-no, either_true}
use Rattle.lex_source.specs.Filling.{row_named, find_within, find_name}

pub record Finding (s t : List ℕ) (n hash start k : ℕ) : Type 0 where
  pub below : k ≤ n
  pub rest : find_within (n - k) s t k hash start ≡ find_name s t n hash start

module _ (s t : List ℕ) (n hash start : ℕ) where
  pub finding-start : Finding s t n hash start 0
  unfolding find_name
  finding-start =
      let e : n - 0 ≡ n = omega arith in
      record { below = omega arith; rest = ap (λ (m : ℕ). find_within m s t 0 hash start) e }

  step_is : (k left : ℕ) → find_within (suc left) s t k hash start ≡ if_true (row_named s t k hash start) k (find_within left s t (k + 1) hash start)
  unfolding find_within
  step_is k left = refl

  none_is : (k : ℕ) → find_within 0 s t k hash start ≡ k
  unfolding find_within
  none_is k = refl

  module _ (k : ℕ) where
    pub finding-here : (b : Bool) → Finding s t n hash start k → k < n → b ≡ row_named s t k hash start → b ≡ true → k ≡ find_name s t n hash start
    finding-here b h l p e =
        let q : n - k ≡ suc (n - (k + 1)) = omega arith in
        sym (ap (λ (m : ℕ). find_within m s t k hash start) q ∙ step_is k (n - (k + 1)) ∙ if_true-yes _ _ (sym p ∙ e)) ∙ h.rest

    pub finding-more : (b : Bool) → Finding s t n hash start k → k < n → b ≡ row_named s t k hash start → b ≡ false → Finding s t n hash start (k + 1)
    finding-more b h l p e =
        let q : n - k ≡ suc (n - (k + 1)) = omega arith in
        record {
          below = omega arith;
          rest = sym (ap (λ (m : ℕ). find_within m s t k hash start) q ∙ step_is k (n - (k + 1)) ∙ if_true-no _ _ (sym p ∙ e)) ∙ h.rest;
        }

    pub finding-none : Finding s t n hash start k → n ≤ k → n ≡ find_name s t n hash start
    finding-none h l =
        let q : n - k ≡ 0 = omega arith in
        let e : n ≡ k = omega (arith, h.below) in
        e ∙ sym (ap (λ (m : ℕ). find_within m s t k hash start) q ∙ none_is k) ∙ h.rest

pub ruleset finding = (finding-start, finding-here, finding-more, finding-none)

-- a number found is at most the number of rows
within-most : (left : ℕ) (s t : List ℕ) (k hash start : ℕ) → find_within left s t k hash start ≤ k + left
unfolding find_within
within-most zero s t k hash start = omega arith
within-most (suc left) s t k hash start =
    either_true (λ (j : ℕ). j ≤ k + suc left) (row_named s t k hash start) _ _ (λ _. omega arith) (λ _. omega (arith, within-most left s t (k + 1) hash start))

pub find-most : (s t : List ℕ) (n hash start : ℕ) → find_name s t n hash start ≤ n
unfolding find_name
find-most s t n hash start = omega (arith, within-most n s t 0 hash start)
