-- Escapes: `\\`, `\"`, `\n`, `\r`, `\t`, `\xXX` (two hex digits, either case), `\` space.
-- Assumes nothing.
use Rattle.std.specs.Prelude.{ℕ, ◌+◌, ◌-◌, ◌*◌, List, Result, Ok, Err}
use Rattle.base_prelude.specs.Choice.{if_lt, if_eq}
use Rattle.base_prelude.specs.Bytes.{byte_at}
use Rattle.lex_spelling.specs.declared.Decoded.{Decoded}

-- a byte of a value, and the place behind it
abbrev pub decoded : ℕ → ℕ → Decoded
decoded value next = record { value = value; next = next }

-- the value of a hex digit; 16 of any other byte
unfoldable pub hex_of : ℕ → ℕ
hex_of c =
    if_lt c 48 16 (if_lt c 58 (c - 48) (if_lt c 65 16 (if_lt c 71 (c - 55) (if_lt c 97 16 (if_lt c 103 (c - 87) 16)))))

-- the byte that the byte after the backslash stands for; 256 where it stands for none
unfoldable pub plain_of : ℕ → ℕ
plain_of c =
    if_eq c 92 92 (if_eq c 34 34 (if_eq c 110 10 (if_eq c 114 13 (if_eq c 116 9 (if_eq c 32 32 256)))))

-- "For refusal 3 the place becomes the first byte that breaks the escape (the source's length if it ends there)": the one behind
-- the backslash and the n bytes that go on with it
unfoldable pub bad_place : ℕ → ℕ → ℕ
bad_place at n = at + 1 + n

-- an escape of one byte, which stands for v, or for none where v is 256
unfoldable pub plain_at : ℕ → ℕ → Result Decoded ℕ
plain_at at v = if_lt v 256 (Ok (decoded v (at + 2))) (Err (bad_place at 0))

-- `\x` and two digits of the values a and b, 16 of what is none
unfoldable pub hex_at : ℕ → ℕ → ℕ → Result Decoded ℕ
hex_at at a b = if_lt a 16 (if_lt b 16 (Ok (decoded (a * 16 + b) (at + 4))) (Err (bad_place at 2))) (Err (bad_place at 1))

unfoldable pub hex_from : List ℕ → ℕ → Result Decoded ℕ
hex_from s at = hex_at at (hex_of (byte_at s (at + 2))) (hex_of (byte_at s (at + 3)))

-- the escape whose backslash stands at a place
unfoldable pub escape_at : List ℕ → ℕ → Result Decoded ℕ
escape_at s at =
    if_eq (byte_at s (at + 1)) 120
    (hex_from s at)
    (plain_at at (plain_of (byte_at s (at + 1))))
