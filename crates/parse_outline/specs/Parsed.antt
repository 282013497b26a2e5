-- What the stage answers: the numbers of statements and labels, or a refusal with 01's number and place.
-- Assumes nothing.
use Rattle.std.specs.Prelude.{ℕ, Result, Ok, Err}
use Rattle.base_prelude.specs.Fault.{key_number, key_place}
use Rattle.base_limits.specs.declared.Refusal.{Refusal}
use Rattle.parse_outline.specs.declared.RowCounts.{RowCounts}

abbrev pub Parsed : Type 0
Parsed = Result RowCounts Refusal

abbrev pub accepted : ℕ → ℕ → Parsed
accepted statements labels = Ok (record { statements = statements; labels = labels })

abbrev pub refused : ℕ → ℕ → Parsed
refused number place = Err (record { number = number; place = place })

-- the number and the place of a key
abbrev pub refusal_of : ℕ → Refusal
refusal_of k = record { number = key_number k; place = key_place k }
