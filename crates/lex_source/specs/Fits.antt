-- What the code asks of a token before it writes its row.
-- Assumes nothing.
use Rattle.std.specs.Prelude.{Some, None, Ok, Err, ◌≡◌, true, List, ℕ, ◌+◌, ◌*◌, ◌≤◌, ◌<◌, length}
use Rattle.base_limits.specs.Limits.{tokens, name_bytes, token_row, word_values}
use Rattle.lex_spelling.specs.Text.{name_at}
use Rattle.lex_lexeme.specs.declared.Lexeme.{Lexeme}
use Rattle.lex_lexeme.specs.declared.TokenError.TheVariants.{Lone, Broken, Open}
use Rattle.lex_lexeme.specs.Reading.{Reading, is_named}

pub record LexemeFits (s t : List ℕ) (n : ℕ) (x : Lexeme) : Type 0 where
  pub room : n * token_row + token_row ≤ length t
  pub few : n < tokens
  pub first : x.first < word_values
  pub next : x.next < word_values
  pub size : x.size < word_values
  pub named : is_named x.kind ≡ true → (x.size ≡ length (name_at s x.start)) × (x.size ≤ name_bytes)

abbrev pub ReadingFits : List ℕ → List ℕ → ℕ → Reading → Type 0
ReadingFits s t n (Ok None) = Unit {0}
ReadingFits s t n (Err (Lone p)) = Unit {0}
ReadingFits s t n (Err (Broken p)) = Unit {0}
ReadingFits s t n (Err (Open p)) = Unit {0}
ReadingFits s t n (Ok (Some x)) = LexemeFits s t n x
