-- Words written over a list: its length stays, the words before and behind stay, those between are the written ones.
-- Assumes nothing.
use mathlib.Core.Path.{◌≡◌, refl, ◌∙◌, ap}
use Prim.Native.Nat.{ℕ, zero, suc, ◌+◌, ◌<◌, ◌≤◌}
use mathlib.Core.List.{List, [], ◌∷◌}
use native.Mathlib.Nat.{not-suc-le-zero}
use native.Mathlib.Omega.{arith}
use lib.ListN.{get_or, length, set, length-set, replicate}
use lib.Seq.{get_or-set_same, get_or-set_other}
use Rattle.vm_definitions.specs.Access.{store_from}

-- ---- one word

pub set_at_lem : (l : List ℕ) (a x : ℕ) → a < length l → get_or (set l a x) a 0 ≡ x
set_at_lem l a x h = get_or-set_same l a x 0 h

pub set_other : (l : List ℕ) (a x i : ℕ) → (i ≡ a → ⊥) → get_or (set l a x) i 0 ≡ get_or l i 0
set_other l a x i q = get_or-set_other l a i x 0 q

-- what is at most m stays so
pub set-most : (l : List ℕ) (a x i m : ℕ) → x ≤ m → get_or l i 0 ≤ m → get_or (set l a x) i 0 ≤ m
set-most [] a x i m h g = g
set-most (y ∷ l) zero x zero m h g = h
set-most (y ∷ l) zero x (suc i) m h g = g
set-most (y ∷ l) (suc a) x zero m h g = g
set-most (y ∷ l) (suc a) x (suc i) m h g = set-most l a x i m h g

-- ---- words from a place on

pub store_length : (l : List ℕ) (a : ℕ) (xs : List ℕ) → length (store_from l a xs) ≡ length l
unfolding store_from
store_length l a [] = refl
store_length l a (x ∷ xs) = store_length (set l a x) (suc a) xs ∙ length-set l a x

pub store-before : (l : List ℕ) (a : ℕ) (xs : List ℕ) (i : ℕ) → i < a → get_or (store_from l a xs) i 0 ≡ get_or l i 0
unfolding store_from
store-before l a [] i h = refl
store-before l a (x ∷ xs) i h = store-before (set l a x) (suc a) xs i (omega arith) ∙ set_other l a x i (λ e. omega arith)

pub store-behind : (l : List ℕ) (a : ℕ) (xs : List ℕ) (i : ℕ) → a + length xs ≤ i → get_or (store_from l a xs) i 0 ≡ get_or l i 0
unfolding store_from
store-behind l a [] i h = refl
store-behind l a (x ∷ xs) i h = store-behind (set l a x) (suc a) xs i (omega arith) ∙ set_other l a x i (λ e. omega arith)

-- the word itself has to be in the list, those behind it need not
pub store_at : (l : List ℕ) (a : ℕ) (xs : List ℕ) (j : ℕ) → a + j < length l → j < length xs → get_or (store_from l a xs) (a + j) 0 ≡ get_or xs j 0
unfolding store_from
store_at l a [] j h g = absurd (not-suc-le-zero g)
store_at l a (x ∷ xs) zero h g =
    let z : a + 0 ≡ a = omega arith in
    ap (λ (i : ℕ). get_or (store_from (set l a x) (suc a) xs) i 0) z ∙ store-before (set l a x) (suc a) xs a (omega arith) ∙ set_at_lem l a x (omega arith)
store_at l a (x ∷ xs) (suc j) h g =
    let z : a + suc j ≡ suc a + j = omega arith in
    ap (λ (i : ℕ). get_or (store_from (set l a x) (suc a) xs) i 0) z ∙ store_at (set l a x) (suc a) xs j (omega (arith, length-set l a x)) (omega arith)

pub store_in : (l : List ℕ) (a : ℕ) (xs : List ℕ) (j : ℕ) → a + length xs ≤ length l → j < length xs → get_or (store_from l a xs) (a + j) 0 ≡ get_or xs j 0
store_in l a xs j h g = store_at l a xs j (omega arith) g

pub store-most : (l : List ℕ) (a : ℕ) (xs : List ℕ) (i m : ℕ) → ((j : ℕ) → get_or xs j 0 ≤ m) → get_or l i 0 ≤ m → get_or (store_from l a xs) i 0 ≤ m
unfolding store_from
store-most l a [] i m h g = g
store-most l a (x ∷ xs) i m h g = store-most (set l a x) (suc a) xs i m (λ j. h (suc j)) (set-most l a x i m (h zero) g)

pub zeros-most : (n j m : ℕ) → get_or (replicate n 0) j 0 ≤ m
zeros-most zero j m = omega arith
zeros-most (suc n) zero m = omega arith
zeros-most (suc n) (suc j) m = zeros-most n j m
