-- Token rows: eight words a row.
-- Assumes nothing.
use Rattle.std.specs.Prelude.{ℕ, ◌-◌, List, [], ◌∷◌, ◌++◌, length}
use Rattle.base_prelude.specs.Lists.{zeros}
use Rattle.base_limits.specs.Limits.{token_words}
use Rattle.lex_spelling.specs.Text.{hash_of}
use Rattle.lex_source.specs.Token.{Token}

-- kind, first byte, next byte, value, name, word, hash of the text, and the statement it begins, which the check fills in
unfoldable pub row_of : Token → List ℕ
row_of t = t.kind ∷ t.first ∷ t.next ∷ t.value ∷ t.name ∷ t.word ∷ hash_of t.text ∷ 0 ∷ []

unfoldable pub rows_of : List Token → List ℕ
rows_of [] = []
rows_of (t ∷ ts) = row_of t ++ rows_of ts

-- the whole token table
unfoldable pub token_table : List Token → List ℕ
token_table ts = rows_of ts ++ zeros (token_words - length (rows_of ts))
