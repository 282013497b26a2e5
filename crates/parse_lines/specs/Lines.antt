-- What a line is, by its magic word and, for `section`, `end`, `else` and `set`, the token behind it.
-- Assumes nothing.
use Rattle.std.specs.Prelude.{ℕ, ◌+◌, List}
use Rattle.base_prelude.specs.Choice.{if_lt, if_eq}
use Rattle.lang_kinds.specs.Kinds as kind
use Rattle.lang_kinds.specs.Tokens as token
use Rattle.lang_words.specs.Numbers as word
use Rattle.lang_words.specs.Substitutes as substitute
use Rattle.lang_kinds.specs.Nesting.{kind_of_word}
use Rattle.parse_lines.specs.Tokens.{kind_at, word_at}

-- "section identifiers" data and functions; `section code` is left out in any shape
unfoldable pub section_kind : ℕ → ℕ
section_kind w =
    if_eq w word.data_section kind.section_data
    (if_eq w word.functions_section kind.section_functions
    (if_eq w word.code_section kind.left_out
    kind.unknown))

-- each `end` names what it closes
unfoldable pub end_kind : ℕ → ℕ
end_kind w =
    if_eq w word.function kind.end_function
    (if_eq w word.block kind.end_block
    (if_eq w word.if kind.end_if
    (if_eq w word.group kind.end_group
    kind.unknown)))

-- behind `else` stands a test
unfoldable pub test_kind : ℕ → ℕ
test_kind w = if_lt w word.ifeq kind.unknown (if_lt w word.add kind.else_if kind.unknown)

-- a bare `else`, or an `else if..` line
unfoldable pub else_kind : ℕ → ℕ → ℕ
else_kind k w = if_lt k token.label kind.else (if_eq k token.symbol (test_kind w) kind.unknown)

-- `set` of a local, or of the word at an address
unfoldable pub set_kind : ℕ → ℕ
set_kind k =
    if_eq k token.at_symbol kind.set_at
    (if_eq k token.at_substitute kind.set_at
    (if_eq k token.at_integer kind.set_at
    kind.set))

-- by the magic word w, and the kind and word of the token behind it
unfoldable pub symbol_kind : ℕ → ℕ → ℕ → ℕ
symbol_kind w k second =
    if_eq w word.section (if_eq k token.symbol (section_kind second) kind.unknown)
    (if_eq w word.end (if_eq k token.symbol (end_kind second) kind.unknown)
    (if_eq w word.else (else_kind k second)
    (if_eq w word.set (set_kind k)
    (kind_of_word w))))

-- a first token that is no symbol starts no incantation; `%saved-frame-size` is left out in any shape
unfoldable pub other_kind : ℕ → ℕ → ℕ
other_kind k w =
    if_eq k token.source_end kind.edge
    (if_eq k token.substitute (if_eq w substitute.saved_frame_size kind.left_out kind.unknown)
    (if_eq k token.at_substitute (if_eq w substitute.saved_frame_size kind.left_out kind.unknown)
    kind.unknown))

-- the kind of the line whose magic word is a token
unfoldable pub line_kind : List ℕ → ℕ → ℕ
line_kind t i =
    if_eq (kind_at t i) token.symbol
    (symbol_kind (word_at t i) (kind_at t (i + 1)) (word_at t (i + 1)))
    (other_kind (kind_at t i) (word_at t i))
