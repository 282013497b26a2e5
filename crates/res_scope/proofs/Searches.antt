-- The search loop: the last number that passes.
-- Assumes nothing.
use mathlib.Core.Path.{◌≡◌, refl, ◌∙◌}
use mathlib.Core.Bool.{Bool, true, false}
use Prim.Native.Nat.{ℕ, suc, ◌+◌, ◌-◌, ◌<◌, ◌≤◌}
use native.Mathlib.Numerals.{add-one}
use native.Mathlib.Omega.{arith}
use Rattle.res_scope.specs.Names.{last_from}

-- downward from n to s
pub record Downward (p : ℕ → Bool) (n s i : ℕ) : Type 0 where
  pub below : i ≤ n
  pub rest : last_from p (i - s) s ≡ last_from p (n - s) s

pub downward-start : (p : ℕ → Bool) (n s : ℕ) → Downward p n s n
downward-start p n s = record { below = omega arith; rest = refl }

module _ (p : ℕ → Bool) (n s i : ℕ) (h : Downward p n s i) where
  pub downward-none : i ≤ s → 0 ≡ last_from p (n - s) s
  unfolding last_from
  downward-none l = let e : i - s ≡ 0 = omega arith in rw e at h.rest

  module _ (b : Bool) (l : s < i) (d : b ≡ p (i - 1)) where
    one_less : i - s ≡ suc (i - 1 - s)
    one_less = omega arith

    place : s + (i - 1 - s) ≡ i - 1
    place = omega arith

    pub downward-more : b ≡ false → Downward p n s (i - 1)
    unfolding last_from
    downward-more q =
        record { below = omega (arith, h.below); rest = rw (one_less, place, ← d, q) at h.rest }

    pub downward-found : b ≡ true → i - 1 + 1 ≡ last_from p (n - s) s
    unfolding last_from
    downward-found q = add-one (i - 1) ∙ rw (one_less, place, ← d, q) at h.rest

pub ruleset downward = (downward-start, downward-none, downward-more, downward-found)
