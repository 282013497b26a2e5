-- What start, step, run and going on answer the tracker, and what they leave in the lent buffers.
-- Assumes nothing.
use Rattle.base_limits.specs.declared.Machine.{Machine}
use Rattle.std.specs.Prelude.{ℕ, List, length, Option, Some, None}
use Rattle.base_prelude.specs.Choice.{if_lt}
use Rattle.base_limits.specs.declared.Width.TheVariants.{Bits32}
use Rattle.base_limits.specs.Record.{fresh_of}
use Rattle.prog_tables.specs.Program.{program_from}
use Rattle.prog_tables.specs.Label.{Tables}
use Rattle.vm_definitions.specs.Step.{After, step_of, run_of, Continued, resume_of}
use Rattle.vm_definitions.specs.Lent.{world}
use Rattle.vm_definitions.specs.declared.Outcome.{Outcome}
use Rattle.vm_definitions.specs.declared.Resumed.{Resumed}
use Rattle.vm_definitions.specs.declared.Opening.{Opening}
use Rattle.vm_start.specs.Opening.{Opened, opening_of}
use Rattle.c_words.specs.Words.{record_size}
use Rattle.c_words.specs.Record.{record_of}
use Rattle.c_words.specs.Reply.{Reply, unfit_number, refusal_reply, outcome_reply, resumed_reply, opening_reply}

-- the number given back, and what the record, the stack, the memory and the result then hold
pub record Answered : Type 0 where
  pub number : ℕ
  pub words : List ℕ
  pub stack : List ℕ
  pub memory : List ℕ
  pub result : List ℕ

abbrev pub answered : ℕ → List ℕ → List ℕ → List ℕ → List ℕ → Answered
answered n ws st m out = record { number = n; words = ws; stack = st; memory = m; result = out }

abbrev pub replied : Reply → List ℕ → List ℕ → Answered
replied p st m = answered p.number p.words st m p.result

-- what the code gives back of a step or a run, of going on, of a start
abbrev pub outcome_of : After → Outcome
outcome_of y = record { machine = y.world.machine; count = y.count; broken = y.broken }

abbrev pub resumed_of : Continued → Resumed
resumed_of y = record { outcome = outcome_of y.after; unpaused = y.unpaused }

abbrev pub opening_with : Opened → Opening
opening_with y = record { machine = y.world.machine; answer = y.answer }

-- the lent buffers: the words of the record, stack, memory, result
module _ (ws st m out : List ℕ) where
  -- no record in the lent words: a number, and nothing else changes
  unfoldable pub unfit : ℕ → Answered
  unfit number = replied (refusal_reply number ws out) st m

  unfoldable pub outcome_answer : After → Answered
  outcome_answer y = replied (outcome_reply (outcome_of y) ws out) y.world.stack y.world.memory

  unfoldable pub resumed_answer : Continued → Answered
  resumed_answer y = replied (resumed_reply (resumed_of y) ws out) y.after.world.stack y.after.world.memory

  unfoldable pub opening_answer : Opened → Answered
  opening_answer y = replied (opening_reply (opening_with y) ws out) y.world.stack y.world.memory

  unfoldable pub step_by : Tables → Option Machine → Answered
  step_by t (Some r) = outcome_answer (step_of (program_from Bits32 t) (world r st m))
  step_by t None = unfit 35

  unfoldable pub step_call : Tables → Answered
  step_call t = step_by t (record_of ws)

  -- a budget of 0 is answered whatever the lent words hold
  unfoldable pub run_by : Tables → ℕ → Option Machine → Answered
  run_by t budget (Some r) = outcome_answer (run_of (program_from Bits32 t) budget (world r st m))
  run_by t budget None = unfit (unfit_number budget)

  unfoldable pub run_call : Tables → ℕ → Answered
  run_call t budget = run_by t budget (record_of ws)

  -- "37, before 35, for going on with a record that isn't paused" (02, 3): words that hold no record are none that is
  unfoldable pub resume_by : Tables → ℕ → Option Machine → Answered
  resume_by t v (Some r) = resumed_answer (resume_of (program_from Bits32 t) v (world r st m))
  resume_by t v None = unfit 37

  unfoldable pub resume_call : Tables → ℕ → Answered
  resume_call t v = resume_by t v (record_of ws)

  -- a start does not read the record
  unfoldable pub start_call : Tables → List ℕ → List ℕ → List ℕ → Answered
  start_call t bytes name args =
      if_lt (length ws) record_size (unfit 35) (opening_answer (opening_of (program_from Bits32 t) bytes name args (world (fresh_of 0 0 0) st m)))
