-- The token table with the host's marks: "`import` between functions is taken for names in a list that the host lends the check" (02, 3). Word 7
-- of an import's name holds the mark of the host's entry, 0 where the host does not list it.
-- Assumes nothing.
use Rattle.std.specs.Prelude.{ℕ, zero, suc, ◌+◌, ◌*◌, Bool, false, List, eqb, set}
use Rattle.base_prelude.specs.Choice.{if_eq, if_true}
use Rattle.base_limits.specs.Limits.{token_row}
use Rattle.lang_words.specs.Numbers as word
use Rattle.lang_kinds.specs.Tokens as token
use Rattle.lang_kinds.specs.TokenRow as field
use Rattle.lex_spelling.specs.Text.{name_at}
use Rattle.prog_tables.specs.Hosts.{Hosts, host_mark}
use Rattle.parse_lines.specs.Tokens.{token_word, kind_at, word_at}
-- a list as it is lent
pub use Rattle.prog_hosts.specs.Lent.{host_list}

-- token i is the word `import`, and a symbol stands directly behind it
unfoldable pub is_import : List ℕ → ℕ → Bool
is_import t i =
    if_eq (kind_at t i) token.symbol (if_eq (word_at t i) word.import (eqb (kind_at t (i + 1)) token.symbol) false) false

-- the mark of the name at token i
unfoldable pub mark_at : Hosts → List ℕ → List ℕ → ℕ → ℕ
mark_at h s t i = host_mark h (name_at s (token_word t i field.first))

-- the name behind token i with its mark
unfoldable pub name_marked : Hosts → List ℕ → ℕ → List ℕ → List ℕ
name_marked h s i t = if_true (is_import t i) (set t ((i + 1) * token_row + field.host) (mark_at h s t (i + 1))) t

-- the names behind the first n tokens
unfoldable pub hosted_tokens : Hosts → List ℕ → ℕ → List ℕ → List ℕ
hosted_tokens h s zero t = t
hosted_tokens h s (suc i) t = name_marked h s i (hosted_tokens h s i t)
