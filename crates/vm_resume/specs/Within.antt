-- Going on over tables whose counts are good, and what it says of others.
-- Assumes nothing.
use Rattle.std.specs.Prelude.{ℕ, ◌*◌, List, ltb, length}
use Rattle.base_prelude.specs.Choice.{if_true}
use Rattle.base_limits.specs.declared.State.TheVariants.{Running}
use Rattle.base_limits.specs.declared.Machine.{Machine}
use Rattle.prog_tables.specs.Layout.{statement_row}
use Rattle.prog_tables.specs.Program.{Program, lent_program}
use Rattle.vm_guard.specs.Guard.{within_resume}
use Rattle.vm_definitions.specs.Broken.{or_else, resume_broken}
use Rattle.vm_definitions.specs.Step.{World, After, guarded, effected, in_state_of, handed_in}
use Rattle.vm_definitions.specs.declared.Outcome.{Outcome}
use Rattle.vm_definitions.specs.declared.Broken.{Broken}
use Rattle.vm_definitions.specs.declared.Broken.TheVariants.{Somewhere}

-- going on of a paused record
unfoldable pub resumed_with : Program → ℕ → World → After
resumed_with p v x =
    guarded x (effected (in_state_of Running x) (handed_in p v (in_state_of Running x)))
    (resume_broken p x.machine x.stack (length x.memory))

-- t the statement table, of c rows; lw the label table, of lc rows; d the data's length
module _ (t : List ℕ) (c : ℕ) (lw : List ℕ) (lc d : ℕ) where
  -- 35 of going on where a count is past its table; with the count of statements no row is judged
  unfoldable pub counts_broken : Machine → List ℕ → ℕ → Broken
  counts_broken r st m =
      if_true (ltb (length t) (c * statement_row)) Somewhere (or_else (within_resume (lent_program t c lw lc d) r st m) Somewhere)

  -- the same over tables whose counts are good
  unfoldable pub taken_up : ℕ → World → After
  taken_up v x =
      guarded x (effected (in_state_of Running x) (handed_in (lent_program t c lw lc d) v (in_state_of Running x)))
      (within_resume (lent_program t c lw lc d) x.machine x.stack (length x.memory))
