-- A token: what is known of it, and its row in the token table.
-- Assumes nothing.
use Rattle.std.specs.Prelude.{ℕ, ◌+◌, Bool, true, false, List, [], ◌∷◌, length, unwrap_or}
use Rattle.base_prelude.specs.Choice.{if_eq, if_true}
use Rattle.base_prelude.specs.Lists.{same_list}
use Rattle.base_limits.specs.Width.{bits_of, bytes_of}
use Rattle.base_limits.specs.declared.Width.{Width}
use Rattle.lang_kinds.specs.Tokens as token
use Rattle.lang_words.specs.Substitutes as substitute
use Rattle.lang_words.specs.Sections.{known_of}
use Rattle.lang_words.specs.Substitutes.{substitute_of}
use Rattle.lex_lexeme.specs.Reading.{is_named, text_of}
use Rattle.lex_lexeme.specs.declared.Lexeme.{Lexeme}

-- kind, first byte, next byte; an integer's word or a text's size; the decoded text; the name's number; the word's number
pub record Token : Type 0 where
  pub kind : ℕ
  pub first : ℕ
  pub next : ℕ
  pub value : ℕ
  pub text : List ℕ
  pub name : ℕ
  pub word : ℕ

-- under a `%`
unfoldable pub is_substitute : ℕ → Bool
is_substitute kind = if_eq kind token.substitute true (if_eq kind token.at_substitute true false)

-- "`%bits-per-word` is 32, `%bytes-per-word` 4, as integers everywhere"
unfoldable pub substitute_value : Width → ℕ → ℕ
substitute_value w k = if_eq k substitute.bits_per_word (bits_of w) (if_eq k substitute.bytes_per_word (bytes_of w) 0)

-- which reserved word or section identifier a symbol is, which substitute a substitute is; 0 where it is none
unfoldable pub word_of : ℕ → List ℕ → ℕ
word_of kind text = if_true (is_named kind) (if_true (is_substitute kind) (substitute_of text) (known_of text)) 0

-- an integer's word, also a substitute's; the number of bytes of any other text
unfoldable pub token_value : Width → ℕ → ℕ → ℕ → ℕ → ℕ
token_value w kind value size word =
    if_true (is_substitute kind) (substitute_value w word)
    (if_eq kind token.integer value
    (if_eq kind token.at_integer value
    size))

-- whether a token has this name: all bytes agree
unfoldable pub has_name : Token → List ℕ → Bool
has_name t text = if_true (is_named t.kind) (same_list t.text text) false

unfoldable pub first_from : ℕ → List Token → List ℕ → ℕ
first_from k [] text = k
first_from k (t ∷ ts) text = if_true (has_name t text) k (first_from (k + 1) ts text)

-- a name's number: that of the first token which has it, the next one where none has
unfoldable pub name_number : List Token → List ℕ → ℕ
name_number ts text = first_from 0 ts text

-- the token that was read behind others
unfoldable pub token_of : Width → List ℕ → List Token → Lexeme → Token
token_of w s ts x =
    record {
      kind = x.kind;
      first = x.first;
      next = x.next;
      value = token_value w x.kind (unwrap_or x.value 0) (length (text_of s x.kind x.start)) (word_of x.kind (text_of s x.kind x.start));
      text = text_of s x.kind x.start;
      name = if_true (is_named x.kind) (name_number ts (text_of s x.kind x.start)) 0;
      word = word_of x.kind (text_of s x.kind x.start);
    }
