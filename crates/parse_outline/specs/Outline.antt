-- The answer of the stage.
-- Assumes nothing.
use Rattle.std.specs.Prelude.{ℕ, ◌-◌, List, Ok, Err}
use Rattle.base_limits.specs.declared.Width.{Width}
use Rattle.parse_units.specs.Parse.{Result, parse_of}
use Rattle.parse_units.specs.Verdict.{Verdict}
use Rattle.parse_outline.specs.Labels.{label_rows}
use Rattle.parse_outline.specs.Parsed.{Parsed, accepted, refusal_of}

-- statements and labels, or 01's number and place
unfoldable pub answer_of : Verdict → Parsed
answer_of (Ok x) = accepted (x.count - 1) x.labels
answer_of (Err k) = Err (refusal_of k)

-- the answer, the statement rows and the label rows
pub record Outlined : Type 0 where
  pub answer : Parsed
  pub rows : List ℕ
  pub labels : List ℕ

abbrev pub parsed : Parsed → List ℕ → List ℕ → Outlined
parsed a rows labels = record { answer = a; rows = rows; labels = labels }

-- the outline of the tokens t of a source of n bytes
unfoldable pub outline_of : Width → List ℕ → ℕ → Outlined
outline_of w t n = parsed (answer_of (parse_of w t n).verdict) (parse_of w t n).outline (label_rows t)
