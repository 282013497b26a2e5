-- Steps and runs over tables whose counts are good, and what a step says of others.
-- Assumes nothing.
use Rattle.std.specs.Prelude.{ℕ, zero, suc, ◌*◌, Bool, true, false, List, ltb, length}
use Rattle.base_prelude.specs.Choice.{if_eq, if_true}
use Rattle.base_limits.specs.declared.State.{State}
use Rattle.base_limits.specs.declared.State.TheVariants.{Running, Finished, Stopped, Paused}
use Rattle.base_limits.specs.declared.Machine.{Machine}
use Rattle.prog_tables.specs.Layout.{statement_row}
use Rattle.prog_tables.specs.Program.{lent_program}
use Rattle.vm_guard.specs.Guard.{within_broken}
use Rattle.vm_definitions.specs.Broken.{or_else}
use Rattle.vm_definitions.specs.Step.{World, After, idle, guarded, counting, statement_of}
use Rattle.vm_definitions.specs.declared.Outcome.{Outcome}
use Rattle.vm_definitions.specs.declared.Broken.{Broken}
use Rattle.vm_definitions.specs.declared.Broken.TheVariants.{No, Somewhere}

unfoldable pub is_running : State → Bool
is_running Running = true
is_running (Finished v) = false
is_running (Stopped k i) = false
is_running (Paused q) = false

-- t the statement table, of c rows; lw the label table, of lc rows; d the data's length
module _ (t : List ℕ) (c : ℕ) (lw : List ℕ) (lc d : ℕ) where
  -- 35 of a step where a count is past its table: "lowest such statement, else none"; with the count of statements no row is judged
  unfoldable pub counts_broken : Machine → List ℕ → ℕ → Broken
  counts_broken r st m =
      if_true (ltb (length t) (c * statement_row)) Somewhere (or_else (within_broken (lent_program t c lw lc d) r st m) Somewhere)

  -- a running record's step
  unfoldable pub taken_step : World → After
  taken_step x =
      guarded x (statement_of (lent_program t c lw lc d) x)
      (within_broken (lent_program t c lw lc d) x.machine x.stack (length x.memory))

  unfoldable pub within_step : World → After
  within_step x = if_true (is_running x.machine.state) (taken_step x) (idle x No)

  unfoldable pub within_run : ℕ → World → After
  within_run zero x = idle x No
  within_run (suc b) x = if_eq (within_step x).count 0 (within_step x) (counting 1 (within_run b (within_step x).world))
