-- "Two names are one only when all their bytes agree": the decoded bytes of two tokens of a source.
-- Assumes nothing.
use Rattle.std.specs.Prelude.{ℕ, Bool, true, false, List}
use Rattle.base_prelude.specs.Choice.{if_true}
use Rattle.base_prelude.specs.Lists.{same_list}
use Rattle.lang_kinds.specs.TokenRow as field
use Rattle.lex_spelling.specs.Text.{name_at}
use Rattle.lex_lexeme.specs.Reading.{name_start}
use Rattle.parse_lines.specs.Tokens.{token_word, kind_at}
use Rattle.res_scope.specs.Names.{has_name}

-- the decoded name of token i
unfoldable pub name_of : List ℕ → List ℕ → ℕ → List ℕ
name_of s t i = name_at s (name_start s (kind_at t i) (token_word t i field.first))

unfoldable pub same_text : List ℕ → List ℕ → ℕ → ℕ → Bool
same_text s t i j = if_true (has_name t i) (if_true (has_name t j) (same_list (name_of s t i) (name_of s t j)) false) false
