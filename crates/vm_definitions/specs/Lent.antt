-- What the code is lent and what it gives back, as the definitions see it.
-- Assumes nothing.
use Rattle.std.specs.Prelude.{ℕ, List}
use Rattle.base_limits.specs.declared.Machine.{Machine}
use Rattle.prog_tables.specs.Label.{Tables}
use Rattle.vm_definitions.specs.Step.{World, After, Continued}
use Rattle.vm_definitions.specs.declared.Outcome.{Outcome}
use Rattle.vm_definitions.specs.declared.Resumed.{Resumed}

-- the lent tables: statement words and rows, label words and rows, name bytes, the data's length
abbrev pub tables_of : List ℕ → ℕ → List ℕ → ℕ → List ℕ → ℕ → Tables
tables_of t c l k names d =
    record { statements = t; count = c; labels = l; label_count = k; names = names; data_length = d }

-- the record, the lent stack and the lent memory
abbrev pub world : Machine → List ℕ → List ℕ → World
world r st m = record { machine = r; stack = st; memory = m }

-- an outcome with the stack and the memory at exit
abbrev pub left : Outcome → List ℕ → List ℕ → After
left o st m = record { world = world o.machine st m; count = o.count; broken = o.broken }

-- what going on gives back, with them
abbrev pub resumed : Resumed → List ℕ → List ℕ → Continued
resumed o st m = record { after = left o.outcome st m; unpaused = o.unpaused }
