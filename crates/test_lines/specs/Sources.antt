-- The source of a case: text whose bytes may be given as `~` and two hex digits, in a room of 16401 bytes.
-- Assumes nothing.
use Rattle.std.specs.Prelude.{ℕ, zero, suc, ◌+◌, ◌-◌, ◌*◌, ◌%◌, Bool, true, List, [], ◌∷◌, length, slice_set}
use Rattle.base_prelude.specs.Choice.{if_lt, if_eq, if_true}
use Rattle.base_prelude.specs.Bytes.{byte_at}
use Rattle.base_prelude.specs.Walk.{Step, go, stop, walk}
use Rattle.test_lines.specs.Lines.{starts_with}
use Rattle.test_lines.specs.Fields.{field_start, field_of}

-- the value of a hex digit; 16 of any other byte
unfoldable pub hex_of : ℕ → ℕ
hex_of c =
    if_lt c 48 16 (if_lt c 58 (c - 48) (if_lt c 65 16 (if_lt c 71 (c - 55) (if_lt c 97 16 (if_lt c 103 (c - 87) 16)))))

-- the byte of two hex digits, 256 or more where they are none
unfoldable pub hex_byte : ℕ → ℕ → ℕ
hex_byte high low = if_lt low 16 (high * 16 + low) 256

-- the byte that a text has at a place
unfoldable pub text_byte : List ℕ → ℕ → ℕ
text_byte l i =
    if_eq (byte_at l i) 126 (hex_byte (hex_of (byte_at l (i + 1))) (hex_of (byte_at l (i + 2)))) (byte_at l i)

-- how many bytes spell it
unfoldable pub spelled_size : ℕ → ℕ
spelled_size c = if_eq c 126 3 1

abbrev pub Source : Type 0
Source = record { size : ℕ; text : List ℕ }

abbrev pub source : ℕ → List ℕ → Source
source size text = record { size = size; text = text }

-- all room taken: no source
abbrev pub full : ℕ
full = 16401

unfoldable pub add_byte : List ℕ → ℕ → ℕ → Source
add_byte t n c = if_lt n full (source (n + 1) (slice_set t n (c % 256))) (source full t)

-- a source so far, and the place in the line
abbrev pub Adding : Type 0
Adding = record { at : ℕ; so : Source }

abbrev pub adding : ℕ → Source → Adding
adding at so = record { at = at; so = so }

unfoldable pub text_step : List ℕ → Adding → Step Adding Source
text_step l q =
    if_lt q.at (length l)
    (if_lt 255 (text_byte l q.at) (stop (source full q.so.text))
    (go (adding (q.at + spelled_size (byte_at l q.at)) (add_byte q.so.text q.so.size (text_byte l q.at)))))
    (stop q.so)

-- the source with the rest of a line
unfoldable pub add_text : List ℕ → ℕ → Source → Source
add_text l from q = walk (text_step l) q (suc (length l)) (adding from q)

-- the same a number of times
unfoldable pub add_times : List ℕ → ℕ → ℕ → Source → Source
add_times l from zero q = q
add_times l from (suc k) q = add_times l from k (add_text l from q)

-- the source with a line and its byte 10
unfoldable pub add_line : List ℕ → ℕ → Source → Source
add_line l from q = add_byte (add_text l from q).text (add_text l from q).size 10

-- `text `
abbrev pub text-word : List ℕ
text-word = 116 ∷ 101 ∷ 120 ∷ 116 ∷ 32 ∷ []

-- `line `
abbrev pub line_word : List ℕ
line_word = 108 ∷ 105 ∷ 110 ∷ 101 ∷ 32 ∷ []

-- `times `
abbrev pub times-word : List ℕ
times-word = 116 ∷ 105 ∷ 109 ∷ 101 ∷ 115 ∷ 32 ∷ []

unfoldable pub is_source : List ℕ → Bool
is_source l = if_true (starts_with l text-word) true (if_true (starts_with l line_word) true (starts_with l times-word))

-- `text BYTES`, `line BYTES` or `times N BYTES`
unfoldable pub add_source : List ℕ → Source → Source
add_source l q =
    if_true (starts_with l text-word) (add_text l 5 q)
    (if_true (starts_with l line_word) (add_line l 5 q)
    (if_lt 16400 (field_of l 1) (source full q.text) (add_times l (field_start l 2) (field_of l 1) q)))
