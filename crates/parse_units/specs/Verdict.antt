-- What the parser answers: the first free row and the number of labels, or the key of the least fault.
-- Assumes nothing.
use Rattle.std.specs.Prelude.{ℕ, Result, Ok, Err}
use Rattle.parse_units.specs.declared.Totals.{Totals}

abbrev pub Verdict : Type 0
Verdict = Result Totals ℕ

abbrev pub accepted : ℕ → ℕ → Verdict
accepted count labels = Ok (record { count = count; labels = labels })

abbrev pub refused : ℕ → Verdict
refused key = Err key
