-- Choices by a test: what every definition of this repository is made of.
-- Assumes nothing.
use Rattle.std.specs.Prelude.{ℕ, Bool, true, false, ltb, eqb}

-- the first where the test holds, else the second
abbrev pub pick {ℓ} : {X : Type ℓ} → Bool → X → X → X
pick true x y = x
pick false x y = y

-- x where a < b, else y
unfoldable pub if_lt {ℓ} : {X : Type ℓ} → ℕ → ℕ → X → X → X
if_lt a b x y = pick (ltb a b) x y

-- x where a ≡ b, else y
unfoldable pub if_eq {ℓ} : {X : Type ℓ} → ℕ → ℕ → X → X → X
if_eq a b x y = pick (eqb a b) x y

-- x where the test holds, else y
unfoldable pub if_true {ℓ} : {X : Type ℓ} → Bool → X → X → X
if_true t x y = pick t x y
