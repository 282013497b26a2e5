-- Kinds of tokens, as token rows hold them (01, 'Bytes to tokens').
-- Assumes nothing.
use Rattle.std.specs.Prelude.{ℕ}
use Rattle.lang_kinds.specs.declared.Tokens.{Tokens}

-- no token: behind the last one stand zeros
abbrev pub source_end : ℕ
source_end = 0

-- byte 10
abbrev pub newline : ℕ
newline = 1

-- a symbol directly followed by `:`
abbrev pub label : ℕ
label = 2

abbrev pub symbol : ℕ
symbol = 3

-- `%` and a symbol
abbrev pub substitute : ℕ
substitute = 4

-- `@` and a symbol
abbrev pub at_symbol : ℕ
at_symbol = 5

-- `@` and a substitute
abbrev pub at_substitute : ℕ
at_substitute = 6

abbrev pub integer : ℕ
integer = 7

-- `@` and an integer
abbrev pub at_integer : ℕ
at_integer = 8

abbrev pub string : ℕ
string = 9

-- all kinds are below it
abbrev pub past_tokens : ℕ
past_tokens = 16

-- all of them, as `all_tokens` gives them
unfoldable pub tokens_of : Tokens
tokens_of =
    record {
      source_end = source_end;
      newline = newline;
      label = label;
      symbol = symbol;
      substitute = substitute;
      at_symbol = at_symbol;
      at_substitute = at_substitute;
      integer = integer;
      at_integer = at_integer;
      string = string;
      past_tokens = past_tokens;
    }
