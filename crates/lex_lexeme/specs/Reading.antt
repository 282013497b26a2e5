-- What is read at a place where a token may start (01, 'Bytes to tokens').
-- Assumes nothing.
use Rattle.std.specs.Prelude.{ℕ, ◌+◌, Bool, true, false, List, [], ◌∷◌, length, Option, None, Some, Result, Ok, Err}
use Rattle.base_prelude.specs.Choice.{if_lt, if_eq, if_true}
use Rattle.base_prelude.specs.Bytes.{byte_at}
use Rattle.base_limits.specs.declared.Width.{Width}
use Rattle.lang_kinds.specs.Tokens as token
use Rattle.lex_spelling.specs.Classes.{is_letter, is_digit}
use Rattle.lex_spelling.specs.Continuation.{joined}
use Rattle.lex_spelling.specs.Text.{spelled_at, measured, name_at, string_at}
use Rattle.lex_spelling.specs.declared.Spelled.{Spelled}
use Rattle.lex_spelling.specs.declared.Ending.{Ending}
use Rattle.lex_spelling.specs.declared.Ending.TheVariants as ending
use Rattle.lex_lexeme.specs.Number.{digits_at, value_of, integer_of}
use Rattle.lex_lexeme.specs.Gap.{gap_end}
use Rattle.lex_lexeme.specs.declared.Lexeme.{Lexeme}
use Rattle.lex_lexeme.specs.declared.TokenError.{TokenError}
use Rattle.lex_lexeme.specs.declared.TokenError.TheVariants.{Lone, Broken, Open}

-- a token, or why none is read
abbrev pub TokenRead : Type 0
TokenRead = Result Lexeme TokenError

-- what is read at a place: nothing at the source's end, a token, or why none is read
abbrev pub Reading : Type 0
Reading = Result (Option Lexeme) TokenError

-- "A symbol starts with an ASCII letter, `_` or an escape"
unfoldable pub starts_symbol : ℕ → Bool
starts_symbol c = if_true (is_letter c) true (if_eq c 92 true false)

unfoldable pub starts_integer : ℕ → Bool
starts_integer c = if_true (is_digit c) true (if_eq c 43 true (if_eq c 45 true false))

-- a token with a text: where it and its text start, its next byte, the text's size and hash
abbrev pub texted : ℕ → ℕ → ℕ → ℕ → ℕ → ℕ → Lexeme
texted kind first start next size hash =
    record { kind = kind; first = first; start = start; next = next; size = size; hash = hash; value = Some 0 }

-- a token without a text
abbrev pub valued : ℕ → ℕ → ℕ → Option ℕ → Lexeme
valued kind first next value =
    record { kind = kind; first = first; start = first; next = next; size = 0; hash = 0; value = value }

-- "label (symbol directly followed by `:`)"; under a mark it stays what it is
unfoldable pub symbol_to : List ℕ → ℕ → ℕ → ℕ → ℕ → ℕ → ℕ → Lexeme
symbol_to s kind first start size hash p =
    if_eq kind token.symbol
    (if_eq (byte_at s p) 58 (texted token.label first start (p + 1) size hash) (texted token.symbol first start p size hash))
    (texted kind first start p size hash)

unfoldable pub symbol_end : List ℕ → ℕ → ℕ → ℕ → ℕ → ℕ → Ending → TokenRead
symbol_end s kind first start size hash (ending.Stopped p) = Ok (symbol_to s kind first start size hash p)
symbol_end s kind first start size hash (ending.Broken p) = Err (Broken p)

unfoldable pub symbol_by : List ℕ → ℕ → ℕ → ℕ → Spelled → TokenRead
symbol_by s kind first start x = symbol_end s kind first start x.size x.hash x.ending

-- a token of a kind whose symbol starts at a place
unfoldable pub symbol_at : List ℕ → ℕ → ℕ → ℕ → TokenRead
symbol_at s kind first start = symbol_by s kind first start (measured (spelled_at false s start))

unfoldable pub string_to : List ℕ → ℕ → ℕ → ℕ → ℕ → TokenRead
string_to s first size hash p =
    if_eq (byte_at s p) 34 (Ok (texted token.string first (first + 1) (joined s (p + 1)) size hash)) (Err (Open first))

unfoldable pub string_end : List ℕ → ℕ → ℕ → ℕ → Ending → TokenRead
string_end s first size hash (ending.Stopped p) = string_to s first size hash p
string_end s first size hash (ending.Broken p) = Err (Broken p)

unfoldable pub string_by : List ℕ → ℕ → Spelled → TokenRead
string_by s first x = string_end s first x.size x.hash x.ending

-- the string whose opening quote stands at a place
unfoldable pub string_read : List ℕ → ℕ → TokenRead
string_read s first = string_by s first (measured (spelled_at true s (first + 1)))

-- a number out of range is a token all the same, of no word
unfoldable pub integer_from : ℕ → ℕ → ℕ → Option ℕ → Lexeme
integer_from kind first next n = valued kind first next n

-- one digit at least; else what stands first is a lone sign or mark
unfoldable pub integer_by : Width → ℕ → ℕ → Bool → List ℕ → ℕ → TokenRead
integer_by w kind first negative [] next = Err (Lone first)
integer_by w kind first negative (d ∷ ds) next = Ok (integer_from kind first next (integer_of w negative (value_of (d ∷ ds))))

unfoldable pub digits_read : Width → List ℕ → ℕ → ℕ → Bool → ℕ → TokenRead
digits_read w s kind first negative at = integer_by w kind first negative (digits_at s at).digits (digits_at s at).next

-- an integer whose sign or first digit stands at a place
unfoldable pub integer_at : Width → List ℕ → ℕ → ℕ → ℕ → TokenRead
integer_at w s kind first at =
    if_eq (byte_at s at) 45 (digits_read w s kind first true (at + 1))
    (if_eq (byte_at s at) 43 (digits_read w s kind first false (at + 1))
    (digits_read w s kind first false at))

unfoldable pub marked_from : List ℕ → ℕ → ℕ → ℕ → TokenRead
marked_from s kind first at = if_true (starts_symbol (byte_at s at)) (symbol_at s kind first at) (Err (Lone first))

-- "substitute (`%` directly before a symbol)": what stands behind a `%`
unfoldable pub marked_at : List ℕ → ℕ → ℕ → ℕ → TokenRead
marked_at s kind first at = marked_from s kind first (joined s at)

unfoldable pub at_from : Width → List ℕ → ℕ → ℕ → TokenRead
at_from w s first at =
    if_eq (byte_at s at) 37 (marked_at s token.at_substitute first (at + 1))
    (if_true (starts_symbol (byte_at s at)) (symbol_at s token.at_symbol first at)
    (if_true (starts_integer (byte_at s at)) (integer_at w s token.at_integer first at)
    (Err (Lone first))))

-- "`@` directly before an integer, symbol or substitute, as one token"
unfoldable pub at_read : Width → List ℕ → ℕ → TokenRead
at_read w s first = at_from w s first (joined s (first + 1))

-- a token that starts with no mark; "no token can be read here": the byte itself
unfoldable pub plain_read : Width → List ℕ → ℕ → ℕ → TokenRead
plain_read w s at c =
    if_true (starts_symbol c) (symbol_at s token.symbol at at)
    (if_true (starts_integer c) (integer_at w s token.integer at at)
    (Err (Lone at)))

-- the token at a place of the source
unfoldable pub token_at : Width → List ℕ → ℕ → TokenRead
token_at w s at =
    if_eq (byte_at s at) 10 (Ok (valued token.newline at (at + 1) (Some 0)))
    (if_eq (byte_at s at) 34 (string_read s at)
    (if_eq (byte_at s at) 37 (marked_at s token.substitute at (at + 1))
    (if_eq (byte_at s at) 64 (at_read w s at)
    (plain_read w s at (byte_at s at)))))

unfoldable pub as_reading : TokenRead → Reading
as_reading (Ok x) = Ok (Some x)
as_reading (Err e) = Err e

-- the token at a place, none at the end
unfoldable pub read_at : Width → List ℕ → ℕ → Reading
read_at w s at = if_lt at (length s) (as_reading (token_at w s at)) (Ok None)

-- the first token from a place on
unfoldable pub next_read : Width → List ℕ → ℕ → Reading
next_read w s at = read_at w s (gap_end s at)

-- a token with a name: a symbol, plain, as a label, or under `%` or `@`
unfoldable pub is_named : ℕ → Bool
is_named kind = if_lt kind token.label false (if_lt kind token.integer true false)

-- where the symbol of a token starts: behind its marks
unfoldable pub name_start : List ℕ → ℕ → ℕ → ℕ
name_start s kind first =
    if_lt kind token.substitute first
    (if_eq kind token.at_substitute (joined s (joined s (first + 1) + 1))
    (joined s (first + 1)))

-- the decoded bytes of a name or a string
unfoldable pub text_of : List ℕ → ℕ → ℕ → List ℕ
text_of s kind start = if_true (is_named kind) (name_at s start) (if_eq kind token.string (string_at s start) [])
