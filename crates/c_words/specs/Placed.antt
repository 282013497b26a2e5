-- Words put into a buffer one by one.
-- Assumes nothing.
use Rattle.std.specs.Prelude.{ℕ, ◌+◌, List, set}

-- a word at a place of a buffer, if it is long enough
unfoldable pub placed : List ℕ → ℕ → ℕ → List ℕ
placed out i v = set out i v

-- three words from a place on
unfoldable pub three_at : List ℕ → ℕ → ℕ → ℕ → ℕ → List ℕ
three_at out i a b c = placed (placed (placed out i a) (i + 1) b) (i + 2) c
