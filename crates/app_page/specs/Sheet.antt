-- Bytes written into a buffer from a place on. Past the buffer's end they are counted and not written.
-- Assumes nothing.
use Rattle.std.specs.Prelude.{ℕ, suc, List, [], ◌∷◌, set}

-- the next place, and the buffer
pub record Sheet : Type 0 where
  pub at : ℕ
  pub out : List ℕ

abbrev pub sheet : ℕ → List ℕ → Sheet
sheet at out = record { at = at; out = out }

unfoldable pub put : List ℕ → Sheet → Sheet
put [] s = s
put (c ∷ cs) s = put cs (sheet (suc s.at) (set s.out s.at c))
