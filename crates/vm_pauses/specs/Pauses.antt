-- What the functions of pauses give back, as the machine's definitions say it.
-- Assumes nothing.
use Rattle.std.specs.Prelude.{◌≡◌, true, List, ℕ, suc}
use Rattle.base_limits.specs.declared.State.TheVariants.{Paused}
use Rattle.base_limits.specs.declared.Pause.{Pause}
use Rattle.base_limits.specs.declared.Machine.{Machine}
use Rattle.base_limits.specs.Record.{with_state}
use Rattle.base_limits.specs.declared.Width.TheVariants.{Bits32}
use Rattle.prog_tables.specs.Statement.{Row}
use Rattle.vm_definitions.specs.Frames.{returns_import, leaves_good}
use Rattle.vm_definitions.specs.Step.{handed_in}
use Rattle.vm_definitions.specs.declared.Outcome.{Outcome}
use Rattle.vm_definitions.specs.declared.Broken.TheVariants.{No}
use Rattle.vm_calls.specs.Outcomes.{Meaning}

-- a record that is paused
abbrev pub held : Machine → Pause → Outcome
held r q = record { machine = with_state (Paused q) r; count = 0; broken = No }

-- the word v handed in
abbrev pub handing_in : ℕ → Meaning
handing_in v p x = handed_in p v x

-- what going on may rely on: f the view of c rows; m bytes of memory
pub record Awaits (f : ℕ → Row) (c : ℕ) (r : Machine) (st : List ℕ) (m : ℕ) : Type 0 where
  -- all frames are good that what is handed in leaves
  pub leaves : returns_import (f r.next) ≡ true → leaves_good Bits32 f c m st (suc r.frame) r.frame ≡ true
