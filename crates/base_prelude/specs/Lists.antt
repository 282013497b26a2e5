-- Lists of numbers: whether two are the same, whether a number stands in one, and a table cleared from a place on.
-- Assumes nothing.
use Rattle.std.specs.Prelude.{ℕ, ◌-◌, Bool, true, false, List, [], ◌∷◌, ◌++◌, eqb, length, take, drop, replicate}
use Rattle.base_prelude.specs.Choice.{pick}

-- all elements agree, and there are as many
unfoldable pub same_list : List ℕ → List ℕ → Bool
same_list [] [] = true
same_list [] (y ∷ ys) = false
same_list (x ∷ xs) [] = false
same_list (x ∷ xs) (y ∷ ys) = pick (eqb x y) (same_list xs ys) false

-- the number is one of the list
unfoldable pub is_among : ℕ → List ℕ → Bool
is_among k [] = false
is_among k (x ∷ xs) = pick (eqb k x) true (is_among k xs)

abbrev pub zeros : ℕ → List ℕ
zeros n = replicate n 0

-- the table with zeros from a place on
unfoldable pub cleared_from : List ℕ → ℕ → List ℕ
cleared_from t i = take i t ++ zeros (length t - i)

-- the list written over the front of a buffer, as much of it as there is room for
unfoldable pub overlay : List ℕ → List ℕ → List ℕ
overlay xs out = take (length out) (xs ++ drop (length xs) out)
