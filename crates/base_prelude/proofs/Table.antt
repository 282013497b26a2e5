-- A rule of a table, proved at all of its entries by one test that is computed over the whole table.
-- Assumes nothing.
use mathlib.Core.Path.{◌≡◌, refl, ◌∙◌, subst, sym, ap}
use mathlib.Core.Bool.{Bool, true, false}
use mathlib.Core.List.{List, [], ◌∷◌}
use Prim.Native.Nat.{ℕ, zero, suc, ◌+◌, ◌<◌, ◌≤◌}
use native.Mathlib.Nat.{add-zero, zero-add, add-suc, suc-add, le_of_suc-le-suc, not-suc-le-zero}
use native.Mathlib.Decide.{dec_lt, ℕ_discrete}
use native.Mathlib.Omega.{arith}
use lib.Dec.{T, ltb}
use lib.ListN.{length, get_or}
use borrow.Author.Tests.{ltb-true, ne_eqb}
use Rattle.base_prelude.specs.Choice.{pick}
use Rattle.base_prelude.specs.Lists.{is_among}

abbrev pub and : Bool → Bool → Bool
and true b = b
and false b = false

pub and_left : (a b : Bool) → T (and a b) → T a
and_left true b t = tt
and_left false b t = t

pub and_right : (a b : Bool) → T (and a b) → T b
and_right true b t = t
and_right false b t = absurd t

module _ {A : Type 0} (d : A) where
  abbrev pub every : (ℕ → A → Bool) → ℕ → List A → Bool
  every f i [] = true
  every f i (x ∷ xs) = and (f i x) (every f (suc i) xs)

  from : (f : ℕ → A → Bool) (xs : List A) (i : ℕ) → T (every f i xs) → (k : ℕ) → k < length xs → T (f (i + k) (get_or xs k d))
  from f [] i t k h = absurd (not-suc-le-zero h)
  from f (x ∷ xs) i t zero h = subst (λ (m : ℕ). T (f m x)) (sym (add-zero i)) (and_left (f i x) (every f (suc i) xs) t)
  from f (x ∷ xs) i t (suc k) h =
      subst (λ (m : ℕ). T (f m (get_or xs k d))) (suc-add i k ∙ sym (add-suc i k))
      (from f xs (suc i) (and_right (f i x) (every f (suc i) xs) t) k (le_of_suc-le-suc h))

  -- the test at place k of the table
  pub at : (f : ℕ → A → Bool) (xs : List A) → T (every f 0 xs) → (k : ℕ) → k < length xs → T (f k (get_or xs k d))
  at f xs t k h = subst (λ (m : ℕ). T (f m (get_or xs k d))) (zero-add k) (from f xs 0 t k h)

-- ---- the numbers below a bound

-- what holds of each of them
abbrev pub Each : (ℕ → Type 0) → ℕ → Type 0
Each P zero = Unit {0}
Each P (suc n) = Each P n × P n

pub each_at : (P : ℕ → Type 0) (n k : ℕ) → Each P n → k < n → P k
each_at P zero k h l = let z : ⊥ = omega arith in absurd z
each_at P (suc n) k h l = elim (ℕ_discrete k n) [ yes e ↦ subst P (sym e) h.1 | no e ↦ each_at P n k h.0 (omega arith) ]

-- a test of each of them
abbrev pub under : (ℕ → Bool) → ℕ → Bool
under p zero = true
under p (suc n) = and (under p n) (p n)

pub under_at : (p : ℕ → Bool) (n k : ℕ) → T (under p n) → k < n → T (p k)
under_at p zero k h l = let z : ⊥ = omega arith in absurd z
under_at p (suc n) k h l =
    elim (ℕ_discrete k n) [
      | yes e ↦ subst (λ (m : ℕ). T (p m)) (sym e) (and_right (under p n) (p n) h)
      | no e ↦ under_at p n k (and_left (under p n) (p n) h) (omega arith)
    ]

-- two tests agree
abbrev pub agree : Bool → Bool → Bool
agree true b = b
agree false true = false
agree false false = true

pub agree-is : (a b : Bool) → T (agree a b) → a ≡ b
agree-is true true t = refl
agree-is true false t = absurd t
agree-is false true t = absurd t
agree-is false false t = refl

-- ---- lists of numbers below a bound

abbrev pub low : ℕ → List ℕ → Bool
low m [] = true
low m (x ∷ xs) = and (ltb x m) (low m xs)

-- a number from the bound on stands in none of them
pub among-past : (m k : ℕ) (xs : List ℕ) → T (low m xs) → m ≤ k → is_among k xs ≡ false
unfolding is_among
among-past m k [] t h = refl
among-past m k (x ∷ xs) t h =
    let l : x < m = ltb-true x m (true-is (ltb x m) (and_left (ltb x m) (low m xs) t)) in
    ap (λ (b : Bool). pick b true (is_among k xs)) (ne_eqb k x (λ e. let z : ⊥ = omega arith in z))
    ∙ among-past m k xs (and_right (ltb x m) (low m xs) t) h
  where
    true-is : (b : Bool) → T b → b ≡ true
    true-is true t = refl
    true-is false t = absurd t

-- a test that agrees with a list below the bound, and from it on is false, says what the list says
pub among-by : (m : ℕ) (p : ℕ → Bool) (xs : List ℕ) → T (under (λ k. agree (is_among k xs) (p k)) m) → T (low m xs) → ((k : ℕ) → m ≤ k → p k ≡ false)
    → (k : ℕ) → p k ≡ is_among k xs
among-by m p xs t l f k =
    elim (dec_lt k m) [
      | yes h ↦ sym (agree-is (is_among k xs) (p k) (under_at (λ i. agree (is_among i xs) (p i)) m k t h))
      | no h ↦ f k (omega arith) ∙ sym (among-past m k xs l (omega arith))
    ]
