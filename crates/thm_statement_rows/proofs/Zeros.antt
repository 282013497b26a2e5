-- Words that must be 0, and lists of zeros.
-- Assumes nothing.
use mathlib.Core.Path.{◌≡◌, refl, sym, ◌∙◌, ap}
use mathlib.Core.Bool.{Bool, true, false}
use mathlib.Core.List.{List, ◌++◌}
use Prim.Native.Nat.{ℕ, zero, suc, ◌+◌, ◌-◌, ◌≤◌, ◌<◌}
use native.Mathlib.Decide.{dec_lt}
use native.Mathlib.Omega.{arith}
use lib.Dec.{eqb}
use lib.ListN.{length, get_or, drop, length-replicate, get_or-replicate, get_or-eq_default}
use lib.Seq.{get_or-append-add, get_or-take, get_or-drop}
use borrow.Author.Tests.{eq-eqb}
use Rattle.base_prelude.specs.Lists.{zeros, overlay}
use Rattle.base_prelude.proofs.Choice.{true-false}
use Rattle.prog_tables.specs.Tests.{one_of, all_of, all_below}
use Rattle.prog_tables.specs.Canonical.{zero_from}
use Rattle.prog_tables.proofs.Each.{both_true}

-- a test that holds at each number below the bound
pub below_all : (p : ℕ → Bool) (n : ℕ) → ((i : ℕ) → i < n → p i ≡ true) → all_below p n ≡ true
unfolding all_below
below_all p zero h = refl
below_all p (suc n) h = both_true (p n) (all_below p n) (h n (omega arith)) (below_all p n (λ i g. h i (omega arith)))

-- a word that is 0 where it is not used
pub used-or-zero : (p : Bool) (v : ℕ) → (p ≡ false → v ≡ 0) → one_of p (eqb v 0) ≡ true
used-or-zero true v h = refl
used-or-zero false v h = eq-eqb v 0 (h refl)

pub neither_left : (p q : Bool) → one_of p q ≡ false → p ≡ false
neither_left true q h = h
neither_left false q h = refl

pub neither_right : (p q : Bool) → one_of p q ≡ false → q ≡ false
neither_right true q h = true-false h
neither_right false q h = h

-- ---- zeros

pub zeros-at : (n i : ℕ) → get_or (zeros n) i 0 ≡ 0
zeros-at n i =
    elim (dec_lt i n) [
      | yes h ↦ get_or-replicate n i 0 0 h
      | no h ↦ get_or-eq_default (zeros n) 0 (omega (arith, length-replicate {A = ℕ} n 0))
    ]

pub zeros-zero : (n m : ℕ) → zero_from n (zeros m) ≡ true
unfolding zero_from all_of
zeros-zero zero zero = refl
zeros-zero zero (suc m) = zeros-zero zero m
zeros-zero (suc n) zero = refl
zeros-zero (suc n) (suc m) = zeros-zero n m

-- a list over the front of a buffer leaves what lies behind it
pub overlay-behind : (xs out : List ℕ) (i : ℕ) → length xs ≤ i → i < length out → get_or (overlay xs out) i 0 ≡ get_or out i 0
unfolding overlay
overlay-behind xs out i h g =
    let e : i ≡ length xs + (i - length xs) = omega arith in
    get_or-take (length out) (xs ++ drop (length xs) out) i 0 g ∙ ap (λ (j : ℕ). get_or (xs ++ drop (length xs) out) j 0) e
    ∙ get_or-append-add xs (drop (length xs) out) (i - length xs) 0 ∙ get_or-drop (length xs) out (i - length xs) 0
    ∙ ap (λ (j : ℕ). get_or out j 0) (sym e)
