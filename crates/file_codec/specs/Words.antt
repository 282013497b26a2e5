-- Words of a rule file: four bytes, "little-endian". The bytes of a word are `word_bytes 4` of crate base_word.
-- Assumes nothing.
use Rattle.std.specs.Prelude.{ℕ, zero, suc, ◌+◌, ◌*◌, List, [], ◌∷◌, get_or}

-- bytes of a word
abbrev pub word_size : ℕ
word_size = 4

-- the word whose first byte is at a place; bytes past the end are 0
unfoldable pub word_in : List ℕ → ℕ → ℕ
word_in b at = get_or b at 0 + 256 * (get_or b (at + 1) 0 + 256 * (get_or b (at + 2) 0 + 256 * get_or b (at + 3) 0))

-- g j, g (j + 1), ..: n of them
unfoldable pub listed : (ℕ → ℕ) → ℕ → ℕ → List ℕ
listed g zero j = []
listed g (suc n) j = g j ∷ listed g n (suc j)
