-- Tests, and what is found of the numbers below a bound.
-- Assumes nothing.
use Rattle.std.specs.Prelude.{ℕ, zero, suc, max, Bool, true, false, List, [], ◌∷◌}
use Rattle.base_prelude.specs.Choice.{pick}

abbrev pub both : Bool → Bool → Bool
both p q = pick p q false

abbrev pub one_of : Bool → Bool → Bool
one_of p q = pick p true q

-- q where p holds
abbrev pub given : Bool → Bool → Bool
given p q = pick p q true

-- every test of a list
unfoldable pub all : List Bool → Bool
all [] = true
all (b ∷ bs) = both b (all bs)

-- some test of a list
unfoldable pub some : List Bool → Bool
some [] = false
some (b ∷ bs) = one_of b (some bs)

-- every element of a list passes
unfoldable pub all_of : {X : Type 0} → (X → Bool) → List X → Bool
all_of p [] = true
all_of p (x ∷ xs) = both (p x) (all_of p xs)

-- some element of a list passes
unfoldable pub some_of : {X : Type 0} → (X → Bool) → List X → Bool
some_of p [] = false
some_of p (x ∷ xs) = one_of (p x) (some_of p xs)

-- every number below n passes
unfoldable pub all_below : (ℕ → Bool) → ℕ → Bool
all_below p zero = true
all_below p (suc n) = both (p n) (all_below p n)

-- some number below n passes
unfoldable pub some_below : (ℕ → Bool) → ℕ → Bool
some_below p zero = false
some_below p (suc n) = one_of (p n) (some_below p n)

-- how many numbers below n pass
unfoldable pub count_below : (ℕ → Bool) → ℕ → ℕ
count_below p zero = 0
count_below p (suc n) = pick (p n) (suc (count_below p n)) (count_below p n)

-- the greatest of g over the numbers below n; 0 without any
unfoldable pub greatest_below : (ℕ → ℕ) → ℕ → ℕ
greatest_below g zero = 0
greatest_below g (suc n) = max (greatest_below g n) (g n)

-- the first of `left` numbers from i on that passes; the number behind them without any
unfoldable pub first_from : (ℕ → Bool) → ℕ → ℕ → ℕ
first_from p zero i = i
first_from p (suc left) i = pick (p i) i (first_from p left (suc i))
