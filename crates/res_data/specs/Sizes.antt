-- Sizes of data: how many bytes each line adds, and how many all lines before a token take.
-- Assumes nothing.
use Rattle.std.specs.Prelude.{ℕ, suc, ◌+◌, ◌-◌, ◌%◌, List, length}
use Rattle.base_prelude.specs.Choice.{if_lt, if_eq}
use Rattle.base_prelude.specs.Fault.{none}
use Rattle.base_prelude.specs.Walk.{Step, go, stop, walk}
use Rattle.base_limits.specs.Limits as limits
use Rattle.base_limits.specs.Width.{bytes_of, data_limit}
use Rattle.base_limits.specs.declared.Width.{Width}
use Rattle.lang_kinds.specs.Kinds as kind
use Rattle.lang_kinds.specs.Grounds as ground
use Rattle.parse_lines.specs.Tokens.{value_at, key_at}
use Rattle.parse_lines.specs.Units.{unit_at}
use Rattle.parse_lines.specs.Lines.{line_kind}
use Rattle.parse_lines.specs.declared.Span.{Span}
use Rattle.parse_shapes.specs.Shapes.{operand_count}
use Rattle.parse_units.specs.Parse.{section_behind}
use Rattle.res_data.specs.declared.Cursor.{Cursor}
use Rattle.std.specs.Prelude.{Result, Ok, Err, Option, Some, None}

-- the multiple that an `align` line asks for: "bare 4", the bytes of a word
unfoldable pub align_of : Width → List ℕ → Span → ℕ
align_of w t u = if_eq (operand_count u) 0 (bytes_of w) (value_at t (u.word + 1))

-- bytes from a length up to the next multiple of n, none where it is one
unfoldable pub fill_of : ℕ → ℕ → ℕ
fill_of n len = if_eq n 0 0 ((n - len % n) % n)

-- "it fills with zeros in data, does nothing between functions"
unfoldable pub align_size : Width → List ℕ → Span → ℕ → ℕ → ℕ
align_size w t u section len = if_lt section ground.data_section 0 (fill_of (align_of w t u) len)

-- bytes that a line of kind k in a section adds behind len bytes: `byte` one, `word` those of a word, `string` its decoded bytes
unfoldable pub size_of : Width → List ℕ → Span → ℕ → ℕ → ℕ → ℕ
size_of w t u k section len =
    if_eq k kind.byte 1
    (if_eq k kind.word (bytes_of w)
    (if_eq k kind.string (value_at t (u.word + 1))
    (if_eq k kind.align (align_size w t u section len)
    0)))

-- behind a unit that adds some bytes
unfoldable pub cursor_behind : Span → ℕ → ℕ → Cursor → Cursor
cursor_behind u k more s = record { at = u.next; section = section_behind k s.section; size = s.size + more }

-- where a line that adds some bytes leads: on, or past "data 32,768 bytes"
unfoldable pub add_line : Width → Span → ℕ → ℕ → Cursor → Result (Option Cursor) ℕ
add_line w u k more s = if_lt (data_limit w - s.size) more (Err u.word) (Ok (Some (cursor_behind u k more s)))

-- the unit u, whose line is of kind k: over at the source's end and at the token `end`
unfoldable pub next_of : Width → List ℕ → ℕ → Span → ℕ → Cursor → Result (Option Cursor) ℕ
next_of w t end u k s =
    if_eq k kind.edge (Ok None) (if_lt u.word end (add_line w u k (size_of w t u k s.section s.size) s) (Ok None))

-- "Sections of one name are joined in source order; data starts at address 0"
abbrev pub first_cursor : Cursor
first_cursor = record { at = 0; section = ground.before_sections; size = 0 }

-- what a unit means for the count of bytes
abbrev pub measured : Cursor → Result (Option Cursor) ℕ → Step Cursor (Result ℕ ℕ)
measured s (Ok (Some y)) = go y
measured s (Err i) = stop (Err i)
measured s (Ok None) = stop (Ok s.size)

-- the unit at the cursor's token
unfoldable pub next_at : Width → List ℕ → ℕ → Cursor → Result (Option Cursor) ℕ
next_at w t end s = next_of w t end (unit_at t s.at) (line_kind t (unit_at t s.at).word) s

unfoldable pub measure_step : Width → List ℕ → ℕ → Cursor → Step Cursor (Result ℕ ℕ)
measure_step w t end s = measured s (next_at w t end s)

-- unit after unit
unfoldable pub measure_from : Width → List ℕ → ℕ → Cursor → Result ℕ ℕ
measure_from w t end s = walk (measure_step w t end) (Ok 0) (suc (length t)) s

-- the bytes of all lines whose magic word stands before the token `end`, or the magic word of the first that is too big
unfoldable pub measure_of : Width → List ℕ → ℕ → Result ℕ ℕ
measure_of w t end = measure_from w t end first_cursor

-- no token has this number
abbrev pub past_tokens : ℕ
past_tokens = limits.tokens + 2

-- all lines
abbrev pub length_of : Width → List ℕ → Result ℕ ℕ
length_of w t = measure_of w t past_tokens

-- 0 where data is too big
unfoldable pub length_in : Result ℕ ℕ → ℕ
length_in (Ok n) = n
length_in (Err i) = 0

-- the address of what a label names: the bytes before its magic word's line, so before an `align` fills
unfoldable pub address_of : Width → List ℕ → ℕ → ℕ
address_of w t word = length_in (measure_of w t word)

unfoldable pub big_in : List ℕ → ℕ → Result ℕ ℕ → ℕ
big_in t n (Ok m) = none
big_in t n (Err i) = key_at t n i 15

-- 15: "data too big: the definition or `align`"
unfoldable pub big_rule : Width → List ℕ → ℕ → ℕ
big_rule w t n = big_in t n (length_of w t)
