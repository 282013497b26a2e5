-- Classes of bytes (01, 'Bytes to tokens'). 256 stands for the end of the source.
-- Assumes nothing.
use Rattle.std.specs.Prelude.{ℕ, Bool, true, false}
use Rattle.base_prelude.specs.Choice.{if_lt, if_eq, if_true}

-- "Blanks are 32, 9 and 13."
unfoldable pub is_blank : ℕ → Bool
is_blank c = if_eq c 32 true (if_eq c 9 true (if_eq c 13 true false))

unfoldable pub is_digit : ℕ → Bool
is_digit c = if_lt c 48 false (if_lt c 58 true false)

-- "A symbol starts with an ASCII letter, `_` or an escape"
unfoldable pub is_letter : ℕ → Bool
is_letter c =
    if_lt c 65 false (if_lt c 91 true (if_eq c 95 true (if_lt c 97 false (if_lt c 123 true false))))

-- "after that digits and `-` may stand too"
unfoldable pub is_name_byte : ℕ → Bool
is_name_byte c = if_true (is_letter c) true (if_true (is_digit c) true (if_eq c 45 true false))

-- "After an integer, string, symbol or substitute comes a blank, byte 10, `#` or the end"
unfoldable pub is_separator : ℕ → Bool
is_separator c =
    if_eq c 32 true (if_eq c 9 true (if_eq c 13 true (if_eq c 10 true (if_eq c 35 true (if_eq c 256 true false)))))
