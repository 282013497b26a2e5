-- What numbers, names and words of a page are as bytes.
-- Assumes nothing.
use Rattle.std.specs.Prelude.{ℕ, zero, suc, ◌+◌, ◌/◌, ◌%◌, List, [], ◌∷◌, ◌++◌}
use Rattle.base_prelude.specs.Choice.{if_lt, if_eq, if_true}
use Rattle.lex_spelling.specs.Classes.{is_name_byte}

-- the decimal digits of a number, the last k of them at most
unfoldable pub digits_within : ℕ → ℕ → List ℕ
digits_within zero n = []
digits_within (suc k) n = if_lt n 10 ((48 + n) ∷ []) (digits_within k (n / 10) ++ ((48 + n % 10) ∷ []))

-- in decimal; a number of 64 bits has at most 20 digits
unfoldable pub decimal : ℕ → List ℕ
decimal n = digits_within 20 n

-- a blank and a number
unfoldable pub field : ℕ → List ℕ
field n = (32 ∷ []) ++ decimal n

-- the lower-case hex digit of a number below 16
unfoldable pub hex_digit : ℕ → ℕ
hex_digit d = if_lt d 10 (48 + d) (87 + d)

-- "Other name bytes than letters, digits, `_`, `-` print as `\x` and two lower-case hex digits."
unfoldable pub name_byte : ℕ → List ℕ
name_byte c = if_true (is_name_byte c) (c ∷ []) (92 ∷ 120 ∷ hex_digit (c / 16) ∷ hex_digit (c % 16) ∷ [])

unfoldable pub name_bytes_of : List ℕ → List ℕ
name_bytes_of [] = []
name_bytes_of (c ∷ cs) = name_byte c ++ name_bytes_of cs

-- how often byte 10 stands in a text
unfoldable pub newlines : List ℕ → ℕ
newlines [] = 0
newlines (c ∷ cs) = if_eq c 10 (suc (newlines cs)) (newlines cs)

-- `accepted`
abbrev pub accepted-word : List ℕ
accepted-word = 97 ∷ 99 ∷ 99 ∷ 101 ∷ 112 ∷ 116 ∷ 101 ∷ 100 ∷ []

-- `label `
abbrev pub label-word : List ℕ
label-word = 108 ∷ 97 ∷ 98 ∷ 101 ∷ 108 ∷ 32 ∷ []

-- ` data `
abbrev pub data-word : List ℕ
data-word = 32 ∷ 100 ∷ 97 ∷ 116 ∷ 97 ∷ 32 ∷ []

-- ` function `
abbrev pub function-word : List ℕ
function-word = 32 ∷ 102 ∷ 117 ∷ 110 ∷ 99 ∷ 116 ∷ 105 ∷ 111 ∷ 110 ∷ 32 ∷ []

-- ` place `
abbrev pub place-word : List ℕ
place-word = 32 ∷ 112 ∷ 108 ∷ 97 ∷ 99 ∷ 101 ∷ 32 ∷ []

-- ` import `
abbrev pub import-word : List ℕ
import-word = 32 ∷ 105 ∷ 109 ∷ 112 ∷ 111 ∷ 114 ∷ 116 ∷ 32 ∷ []

-- ` yes`
abbrev pub yes-word : List ℕ
yes-word = 32 ∷ 121 ∷ 101 ∷ 115 ∷ []

-- ` no`
abbrev pub no_word : List ℕ
no_word = 32 ∷ 110 ∷ 111 ∷ []

-- `refused`
abbrev pub refused-word : List ℕ
refused-word = 114 ∷ 101 ∷ 102 ∷ 117 ∷ 115 ∷ 101 ∷ 100 ∷ []

-- ` line`
abbrev pub line_word : List ℕ
line_word = 32 ∷ 108 ∷ 105 ∷ 110 ∷ 101 ∷ []

-- ` byte`
abbrev pub byte_word : List ℕ
byte_word = 32 ∷ 98 ∷ 121 ∷ 116 ∷ 101 ∷ []

-- the end of a line
abbrev pub line-end : List ℕ
line-end = 10 ∷ []
