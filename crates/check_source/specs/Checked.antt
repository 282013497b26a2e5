-- What a check answers: the numbers of tokens, statements, labels and bytes of data; or a refusal with 01's number and place.
-- Assumes nothing.
use Rattle.std.specs.Prelude.{ℕ, Result, Ok, Err}
pub use Rattle.base_limits.specs.declared.Refusal.{Refusal}
pub use Rattle.check_judge.specs.declared.Counts.{Counts}

abbrev pub Checked : Type 0
Checked = Result Counts Refusal

abbrev pub accepted : ℕ → ℕ → ℕ → ℕ → Checked
accepted tokens statements labels size = Ok (record { tokens = tokens; statements = statements; labels = labels; size = size })

abbrev pub refused : ℕ → ℕ → Checked
refused number place = Err (record { number = number; place = place })
