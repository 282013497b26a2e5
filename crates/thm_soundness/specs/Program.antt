-- The program that a check leaves in the lent buffers.
-- Assumes nothing.
use Rattle.std.specs.Prelude.{List, [], Ok, Err}
use Rattle.prog_tables.specs.Label.{Tables}
use Rattle.check_source.specs.Check.{Filled}
use Rattle.check_source.specs.Checked.{Checked}

-- its tables with their counts; none after a refusal
unfoldable pub program_by : Checked → Filled → Tables
program_by (Ok p) x =
    record { statements = x.statements; count = p.statements; labels = x.labels; label_count = p.labels; names = x.names; data_length = p.size }
program_by (Err r) x = record { statements = []; count = 0; labels = []; label_count = 0; names = []; data_length = 0 }

abbrev pub program_of : Filled → Tables
program_of x = program_by x.answer x
