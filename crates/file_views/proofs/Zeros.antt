-- Lists with zeros behind them.
-- Assumes nothing.
use mathlib.Core.Path.{◌≡◌, refl, sym, ◌∙◌, ap}
use mathlib.Core.List.{List, [], ◌∷◌, ◌++◌}
use Prim.Native.Nat.{ℕ, zero, suc, ◌+◌, ◌-◌, ◌<◌, ◌≤◌}
use native.Mathlib.Nat.{zero-add, sub-zero, zero-sub, suc-sub-suc}
use native.Mathlib.Decide.{dec_lt}
use native.Mathlib.Omega.{arith}
use lib.ListN.{length, get_or, take, drop, length-append, length-replicate, get_or-eq_default, get_or-append}
use lib.Seq.{take_all, ext_get_or}
use Rattle.base_prelude.specs.Lists.{zeros, overlay}
use Rattle.vm_definitions.specs.Access.{store_from}
use Rattle.vm_definitions.proofs.Stores.{store_length, store-behind, store_in}

pub zero-at : (k i : ℕ) → get_or (zeros k) i 0 ≡ 0
zero-at zero i = refl
zero-at (suc k) zero = refl
zero-at (suc k) (suc i) = zero-at k i

-- a read sees no difference
pub padded-at : (xs : List ℕ) (k i : ℕ) → get_or (xs ++ zeros k) i 0 ≡ get_or xs i 0
padded-at [] k i = zero-at k i
padded-at (x ∷ xs) k zero = refl
padded-at (x ∷ xs) k (suc i) = padded-at xs k i

pub drop-zeros : (n m : ℕ) → drop n (zeros m) ≡ zeros (m - n)
drop-zeros zero m = rw (sub-zero m)
drop-zeros (suc n) zero = rw (zero-sub (suc n))
drop-zeros (suc n) (suc m) = rw (suc-sub-suc m n) (drop-zeros n m)

module _ (xs : List ℕ) (m : ℕ) (h : length xs ≤ m) where
  pub over_zeros : overlay xs (zeros m) ≡ xs ++ zeros (m - length xs)
  unfolding overlay
  over_zeros =
      rw (length-replicate {A = ℕ} m 0, drop-zeros (length xs) m)
      (take_all m (xs ++ zeros (m - length xs)) (omega (arith, length-append xs (zeros (m - length xs)), length-replicate {A = ℕ} (m - length xs) 0)))

  pub store-zeros : store_from (zeros m) 0 xs ≡ overlay xs (zeros m)
  store-zeros = ext_get_or 0 (store_from (zeros m) 0 xs) (xs ++ zeros (m - length xs)) long each ∙ sym over_zeros
    where
      long : length (store_from (zeros m) 0 xs) ≡ length (xs ++ zeros (m - length xs))
      long = omega (arith, store_length (zeros m) 0 xs, length-replicate {A = ℕ} m 0, length-append xs (zeros (m - length xs)), length-replicate {A = ℕ} (m - length xs) 0)

      each : (i : ℕ) → i < length (store_from (zeros m) 0 xs) → get_or (store_from (zeros m) 0 xs) i 0 ≡ get_or (xs ++ zeros (m - length xs)) i 0
      each i l =
          elim (dec_lt i (length xs)) [
            | yes p ↦ ap (λ (j : ℕ). get_or (store_from (zeros m) 0 xs) j 0) (sym (zero-add i)) ∙ store_in (zeros m) 0 xs i (omega (arith, length-replicate {A = ℕ} m 0)) p ∙ sym (padded-at xs (m - length xs) i)
            | no p ↦ store-behind (zeros m) 0 xs i (omega arith) ∙ zero-at m i ∙ sym (get_or-eq_default xs 0 (omega arith)) ∙ sym (padded-at xs (m - length xs) i)
          ]

  pub over-at : (i : ℕ) → get_or (overlay xs (zeros m)) i 0 ≡ get_or xs i 0
  over-at i = ap (λ (y : List ℕ). get_or y i 0) over_zeros ∙ padded-at xs (m - length xs) i

  pub over-length : length (overlay xs (zeros m)) ≡ m
  over-length = ap length over_zeros ∙ (let z = length-append xs (zeros (m - length xs)) in omega (arith, z, length-replicate {A = ℕ} (m - length xs) 0))
