-- A unit: an incantation with the labels before it. "Any number of labels stand before an incantation, on its line or earlier ones."
-- Assumes nothing.
use Rattle.std.specs.Prelude.{ℕ, ◌+◌, List}
use Rattle.lang_kinds.specs.Tokens as token
use Rattle.parse_lines.specs.Tokens.{skip}
use Rattle.parse_lines.specs.declared.Span.{Span}

-- newlines are passed over to the first label or the magic word; then labels and newlines to the magic word, or to the source's
-- end; the line ends at the next newline
unfoldable pub span_from : List ℕ → ℕ → ℕ → Span
span_from t first word = record { first = first; word = word; next = skip t token.label token.past_tokens (word + 1) }

unfoldable pub span_of : List ℕ → ℕ → Span
span_of t first = span_from t first (skip t token.newline token.symbol first)

unfoldable pub unit_at : List ℕ → ℕ → Span
unit_at t at = span_of t (skip t token.newline token.label at)
