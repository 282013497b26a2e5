-- The data image: the bytes of each line, at their address.
-- Assumes nothing.
use Rattle.std.specs.Prelude.{ℕ, suc, ◌+◌, ◌%◌, List, [], ◌∷◌, ◌++◌, length, take, drop}
use Rattle.base_prelude.specs.Choice.{if_eq}
use Rattle.base_prelude.specs.Lists.{overlay}
use Rattle.base_prelude.specs.Walk.{Step, go, stop, walk}
use Rattle.base_limits.specs.Width.{bytes_of}
use Rattle.base_limits.specs.declared.Width.{Width}
use Rattle.base_word.specs.Bytes.{word_bytes}
use Rattle.lang_kinds.specs.Kinds as kind
use Rattle.lang_kinds.specs.TokenRow as field
use Rattle.lex_spelling.specs.Text.{string_at}
use Rattle.parse_lines.specs.Tokens.{token_word, value_at}
use Rattle.parse_lines.specs.Units.{unit_at}
use Rattle.parse_lines.specs.Lines.{line_kind}
use Rattle.parse_lines.specs.declared.Span.{Span}
use Rattle.res_data.specs.Sizes.{next_at, first_cursor, past_tokens}
use Rattle.res_data.specs.declared.Cursor.{Cursor}
use Rattle.std.specs.Prelude.{Result, Ok, Err, Option, Some, None}

-- `byte` "stored modulo 256", `word` "little-endian", `string` its decoded bytes; the zeros of an `align` are the buffer's own
unfoldable pub line_bytes : Width → List ℕ → List ℕ → Span → ℕ → List ℕ
line_bytes w s t u k =
    if_eq k kind.byte (value_at t (u.word + 1) % 256 ∷ [])
    (if_eq k kind.word (word_bytes (bytes_of w) (value_at t (u.word + 1)))
    (if_eq k kind.string (string_at s (token_word t (u.word + 1) field.first + 1))
    []))

-- bytes written over a buffer from a place on, as many as there is room for
unfoldable pub put_bytes : List ℕ → ℕ → List ℕ → List ℕ
put_bytes out size bytes = take size out ++ overlay bytes (drop size out)

-- a place between two units, and the image so far
pub record Laying : Type 0 where
  pub cursor : Cursor
  pub image : List ℕ

abbrev pub laying : Cursor → List ℕ → Laying
laying c out = record { cursor = c; image = out }

-- what a unit means for the image, which is `written` with the unit's line in it
abbrev pub laid : Result (Option Cursor) ℕ → List ℕ → List ℕ → Step Laying (List ℕ)
laid (Ok (Some y)) written out = go (laying y written)
laid (Err i) written out = stop out
laid (Ok None) written out = stop out

-- the bytes of the line of the unit at a cursor, behind those that are there
unfoldable pub put_unit : Width → List ℕ → List ℕ → Laying → List ℕ
put_unit w s t m =
    put_bytes m.image m.cursor.size
    (line_bytes w s t (unit_at t m.cursor.at) (line_kind t (unit_at t m.cursor.at).word))

unfoldable pub lay_step : Width → List ℕ → List ℕ → Laying → Step Laying (List ℕ)
lay_step w s t m = laid (next_at w t past_tokens m.cursor) (put_unit w s t m) m.image

-- unit after unit
unfoldable pub lay_from : Width → List ℕ → List ℕ → Laying → List ℕ
lay_from w s t m = walk (lay_step w s t) m.image (suc (length t)) m

-- the image of the source s and its tokens t in a buffer
unfoldable pub image_of : Width → List ℕ → List ℕ → List ℕ → List ℕ
image_of w s t out = lay_from w s t (laying first_cursor out)
