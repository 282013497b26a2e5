-- Fields: "each a one-byte tag, a two-byte length (low byte first) and that many bytes" (02, 7).
-- Assumes nothing.
use Rattle.std.specs.Prelude.{ℕ, ◌+◌, ◌*◌, Bool, List, ◌∷◌, ◌++◌, leb, length, get_or, take, drop}
use Rattle.base_word.specs.Bytes.{word_bytes}

-- "tag 1 counts, 2 data, empty too, 3 one statement row, 4 one label row with its decoded name"
abbrev pub counts_tag : ℕ
counts_tag = 1

abbrev pub data_tag : ℕ
data_tag = 2

abbrev pub row_tag : ℕ
row_tag = 3

abbrev pub label_tag : ℕ
label_tag = 4

-- bytes before a field's own: its tag and its length
abbrev pub head_bytes : ℕ
head_bytes = 3

-- ---- written

unfoldable pub field_of : ℕ → List ℕ → List ℕ
field_of tag body = tag ∷ (word_bytes 2 (length body) ++ body)

-- ---- read, at a place of the file b

abbrev pub tag_at : List ℕ → ℕ → ℕ
tag_at b at = get_or b at 0

unfoldable pub size_at : List ℕ → ℕ → ℕ
size_at b at = get_or b (at + 1) 0 + 256 * get_or b (at + 2) 0

-- the place behind it
unfoldable pub behind_at : List ℕ → ℕ → ℕ
behind_at b at = at + head_bytes + size_at b at

-- it is not "cut short"
unfoldable pub is_whole : List ℕ → ℕ → Bool
is_whole b at = leb (behind_at b at) (length b)

-- its bytes
unfoldable pub body_at : List ℕ → ℕ → List ℕ
body_at b at = take (size_at b at) (drop (at + head_bytes) b)
