-- The words of a token row. docs/TABLES.md says each.
-- Assumes nothing.
use Rattle.std.specs.Prelude.{ℕ}
use Rattle.lang_kinds.specs.declared.TokenRows.{TokenRows}

abbrev pub kind : ℕ
kind = 0

-- its first byte
abbrev pub first : ℕ
first = 1

-- the byte behind it
abbrev pub next : ℕ
next = 2

-- an integer's word, the number of bytes of any other text
abbrev pub value : ℕ
value = 3

-- the number of the first token of the same name
abbrev pub name : ℕ
name = 4

-- the number of the reserved word, section identifier or substitute
abbrev pub word : ℕ
word = 5

-- of the decoded text
abbrev pub hash : ℕ
hash = 6

-- the number plus one of the statement that it begins
abbrev pub statement : ℕ
statement = 7

-- in the check's scratch, where no statement is known yet: of an import's name the mark of the host's entry, 0 for none
abbrev pub host : ℕ
host = 7

-- all of them, as `all_token_words` gives them
unfoldable pub token_row_of : TokenRows
token_row_of =
    record {
      kind = kind;
      first = first;
      next = next;
      value = value;
      name = name;
      word = word;
      hash = hash;
      statement = statement;
      host = host;
    }
