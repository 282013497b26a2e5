-- Steps taken several at once: a plain run inside the frame in use, then a call or a return; the exact step where neither can be had. They
-- are the steps of a run (proofs/Several.antt).
-- Assumes nothing.
use Rattle.std.specs.Prelude.{ℕ, suc, ◌+◌, List, length, Option, Some, None}
use Rattle.base_prelude.specs.Choice.{if_lt, if_eq, if_true}
use Rattle.base_limits.specs.declared.Machine.{Machine}
use Rattle.base_limits.specs.Record.{moved_to}
use Rattle.prog_tables.specs.Statement.{Row, row_at}
use Rattle.vm_definitions.specs.Step.{World, After}
use Rattle.vm_definitions.specs.Lent.{world}
use Rattle.vm_definitions.specs.declared.Broken.TheVariants.{No}
use Rattle.vm_guard.specs.FrameInUse.{good_frame_size}
use Rattle.vm_quick_statements.specs.PlainRun.{Ended, plain_run_of}
use Rattle.vm_quick_calls.specs.Transfers.{to_frame, Transferred, transfer_of}
use Rattle.vm_quick_calls.specs.declared.Transfer.{Transfer}
use Rattle.vm_run.specs.Within.{is_running, within_step}

-- the words of the frame in use, where the record is running and stands in a good one; else 0
unfoldable pub usable_size : (ℕ → Row) → ℕ → ℕ → Machine → List ℕ → ℕ
usable_size f c m r st = if_true (is_running r.state) (good_frame_size f c m r st) 0

-- so many steps, and where they led
abbrev pub after : World → ℕ → After
after x k = record { world = x; count = k; broken = No }

-- t the statement table, of c rows; lw the label table, of lc rows; d the data's length
module _ (t : List ℕ) (c : ℕ) (lw : List ℕ) (lc d : ℕ) where
  -- the statement that a plain run of k steps ends at
  unfoldable pub end_by : ℕ → World → Option Transfer → List ℕ → After
  end_by k x (Some go) st = after (world (moved_to x.machine go.next go.frame go.used go.top) st x.memory) (k + 1)
  end_by k x None st = if_lt 0 k (after (world x.machine st x.memory) k) (within_step t c lw lc d (world x.machine st x.memory))

  -- a call or a return of function g, whose frame has this size; else nothing, or the exact step where k is 0
  unfoldable pub plain_run_end : ℕ → ℕ → ℕ → World → After
  plain_run_end g size k x =
      end_by k x
      (transfer_of t c lw lc g d size x.stack x.machine.frame x.machine.used x.memory x.machine.next
      x.machine.top).move
      (transfer_of t c lw lc g d size x.stack x.machine.frame x.machine.used x.memory x.machine.next
      x.machine.top).stack

  -- the world that a plain run ends in
  abbrev pub ends : Machine → Ended → World
  ends r e = world (moved_to r e.next r.frame r.used e.top) e.stack e.memory

  unfoldable pub steps_in_frame_by : ℕ → ℕ → ℕ → Machine → Ended → After
  steps_in_frame_by g size budget r e = if_lt e.count budget (plain_run_end g size e.count (ends r e)) (after (ends r e) e.count)

  -- a plain run in the frame in use, of this size, and what it ends at
  unfoldable pub steps_in_frame : ℕ → ℕ → World → After
  steps_in_frame size budget x =
      steps_in_frame_by (row_at t x.machine.next).func size budget x.machine
      (plain_run_of t c (row_at t x.machine.next).func d size x.machine.frame budget x.stack x.memory x.machine.next x.machine.top)

  unfoldable pub some_steps : ℕ → World → After
  some_steps budget x =
      if_eq (usable_size (row_at t) c (length x.memory) x.machine x.stack) 0 (within_step t c lw lc d x)
      (steps_in_frame (usable_size (row_at t) c (length x.memory) x.machine x.stack) budget x)
