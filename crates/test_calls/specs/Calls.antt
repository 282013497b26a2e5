-- The calls of a case: what each is lent, and what it leaves.
-- Assumes nothing.
use Rattle.std.specs.Prelude.{ℕ, Bool, true, List, [], ◌∷◌, ◌++◌, length, take, drop}
use Rattle.base_prelude.specs.Choice.{if_lt, if_true}
use Rattle.base_prelude.specs.Lists.{same_list, zeros}
use Rattle.base_limits.specs.declared.Width.TheVariants.{Bits32}
use Rattle.prog_tables.specs.Program.{program_from}
use Rattle.vm_definitions.specs.Access.{store_from}
use Rattle.vm_definitions.specs.Step.{World, After, Continued, step_of, run_of, resume_of}
use Rattle.vm_definitions.specs.Lent.{tables_of, world}
use Rattle.vm_definitions.specs.declared.Outcome.{Outcome}
use Rattle.vm_definitions.specs.declared.Resumed.{Resumed}
use Rattle.vm_definitions.specs.declared.Opening.{Opening}
use Rattle.prog_tables.specs.Label.{Tables}
use Rattle.vm_start.specs.Opening.{Opened, opening_of}
use Rattle.test_lines.specs.Lines.{starts_with}
use Rattle.test_lines.specs.Fields.{field_start}
use Rattle.test_lines.specs.Sources.{Source, source, add_text}
use Rattle.test_text.specs.Fields.{raw_at}
use Rattle.test_text.specs.Numbers.{field_word, has_values, is_digits, long_number, arguments_of}
use Rattle.test_text.specs.Answers.{add_all, started_bytes, outcome_bytes, resumed_bytes}
use Rattle.test_text.specs.Buffers.{lesser_of, behind_of}
use Rattle.test_state.specs.declared.Fault.TheVariants.{BadLine}
use Rattle.test_state.specs.declared.Progress.{Progress}
use Rattle.test_state.specs.Progress.{On, failed_of, machine_of, answered_by}
use Rattle.test_state.specs.Views.{blank}

-- a progress, and the buffers that a call changes
abbrev pub Ran : Type 0
Ran = record { progress : Progress; got : List ℕ; stack : List ℕ; memory : List ℕ }

abbrev pub ran : Progress → List ℕ → List ℕ → List ℕ → Ran
ran progress got stack memory = record { progress = progress; got = got; stack = stack; memory = memory }

-- what a step or a run gives back
unfoldable pub with_outcome : Progress → Outcome → List ℕ → On
with_outcome q o got = answered_by (machine_of q o.machine) (add_all (outcome_bytes o) (source 0 got))

-- what going on gives back
unfoldable pub with_resumed : Progress → Resumed → List ℕ → On
with_resumed q o got = answered_by (machine_of q o.outcome.machine) (add_all (resumed_bytes o) (source 0 got))

-- what a start gives back
unfoldable pub with_opening : Progress → Opening → List ℕ → On
with_opening q o got = answered_by (machine_of q o.machine) (add_all (started_bytes o.answer) (source 0 got))

-- the tables as a call is lent them
unfoldable pub tables_in : Progress → List ℕ → List ℕ → Tables
tables_in q t b =
    tables_of (take q.lent.statements t) q.counts.statements (take q.lent.labels (behind_of 27648 t)) q.counts.labels
    (take q.lent.names b) q.counts.bytes

-- the data as a start is lent it
unfoldable pub data_in : Progress → List ℕ → List ℕ
data_in q b = take q.lent.bytes (behind_of 16384 b)

-- the first n elements as they are given back, the others as they were
abbrev pub over : List ℕ → ℕ → List ℕ → List ℕ
over front n k = front ++ drop n k

abbrev pub outcome : After → Outcome
outcome x = record { machine = x.world.machine; count = x.count; broken = x.broken }

abbrev pub resumption : Continued → Resumed
resumption x = record { outcome = outcome x.after; unpaused = x.unpaused }

abbrev pub opening : Opened → Opening
opening x = record { machine = x.world.machine; answer = x.answer }

-- how much of the stack and of the memory is lent
abbrev pub stack_in : Progress → List ℕ → ℕ
stack_in q k = lesser_of q.lent.stack (length k)

abbrev pub memory_in : Progress → List ℕ → ℕ
memory_in q m = lesser_of q.lent.memory (length m)

-- the record and what is lent
abbrev pub world_in : Progress → List ℕ → List ℕ → World
world_in q k m = world q.machine (take (stack_in q k) k) (take (memory_in q m) m)

abbrev pub ran_by : After → Progress → List ℕ → List ℕ → List ℕ → Ran
ran_by x q got k m =
    ran (with_outcome q (outcome x) got).progress (with_outcome q (outcome x) got).buffer (over x.world.stack (stack_in q k) k)
    (over x.world.memory (memory_in q m) m)

abbrev pub resumed_by : Continued → Progress → List ℕ → List ℕ → List ℕ → Ran
resumed_by x q got k m =
    ran (with_resumed q (resumption x) got).progress (with_resumed q (resumption x) got).buffer
    (over x.after.world.stack (stack_in q k) k) (over x.after.world.memory (memory_in q m) m)

abbrev pub opened_by : Opened → Progress → List ℕ → List ℕ → List ℕ → Ran
opened_by x q got k m =
    ran (with_opening q (opening x) got).progress (with_opening q (opening x) got).buffer (over x.world.stack (stack_in q k) k)
    (over x.world.memory (memory_in q m) m)

-- `step`
unfoldable pub do_step : Progress → List ℕ → List ℕ → List ℕ → List ℕ → List ℕ → Ran
do_step q got t b k m = ran_by (step_of (program_from Bits32 (tables_in q t b)) (world_in q k m)) q got k m

-- `run BUDGET`
unfoldable pub do_run : ℕ → Progress → List ℕ → List ℕ → List ℕ → List ℕ → List ℕ → Ran
do_run budget q got t b k m = ran_by (run_of (program_from Bits32 (tables_in q t b)) budget (world_in q k m)) q got k m

-- `resume WORD`
unfoldable pub do_resume : ℕ → Progress → List ℕ → List ℕ → List ℕ → List ℕ → List ℕ → Ran
do_resume word q got t b k m = resumed_by (resume_of (program_from Bits32 (tables_in q t b)) word (world_in q k m)) q got k m

-- `start NAME ARGUMENT ..`
unfoldable pub do_start : List ℕ → List ℕ → Progress → List ℕ → List ℕ → List ℕ → List ℕ → List ℕ → Ran
do_start name arguments q got t b k m =
    opened_by (opening_of (program_from Bits32 (tables_in q t b)) (data_in q b) name arguments (world_in q k m)) q got k m

-- the bytes of the name of a start
unfoldable pub read_name : List ℕ → List ℕ → Source
read_name l name = add_text (raw_at l (field_start l 1)) 0 (source 0 name)

-- no arguments
unfoldable pub no_words : List ℕ
no_words = zeros 16

-- `start `
abbrev pub start-blank-word : List ℕ
start-blank-word = 115 ∷ 116 ∷ 97 ∷ 114 ∷ 116 ∷ 32 ∷ []

-- `start`
abbrev pub start_word : List ℕ
start_word = 115 ∷ 116 ∷ 97 ∷ 114 ∷ 116 ∷ []

-- `run `
abbrev pub run-word : List ℕ
run-word = 114 ∷ 117 ∷ 110 ∷ 32 ∷ []

-- `resume `
abbrev pub resume-word : List ℕ
resume-word = 114 ∷ 101 ∷ 115 ∷ 117 ∷ 109 ∷ 101 ∷ 32 ∷ []

-- `step`
abbrev pub step-word : List ℕ
step-word = 115 ∷ 116 ∷ 101 ∷ 112 ∷ []

-- a start whose name and arguments stand in the front of buffers
unfoldable pub start_named : List ℕ → ℕ → List ℕ → ℕ → Progress → List ℕ → List ℕ → List ℕ → List ℕ → List ℕ → Ran
start_named name size arguments count q got t b k m = do_start (take size name) (take count arguments) q got t b k m

unfoldable pub read_start : List ℕ → Progress → List ℕ → List ℕ → List ℕ → List ℕ → List ℕ → Ran
read_start l q got t b k m =
    if_lt (read_name l blank).size 16401
    (if_lt 16 (arguments_of l no_words).count (ran (failed_of q BadLine) got k m)
    (start_named (read_name l blank).text (read_name l blank).size (arguments_of l no_words).words (arguments_of l no_words).count q got t b k m))
    (ran (failed_of q BadLine) got k m)

unfoldable pub read_run : List ℕ → Progress → List ℕ → List ℕ → List ℕ → List ℕ → List ℕ → Ran
read_run l q got t b k m =
    if_true (is_digits l 4) (do_run (long_number l 4) q got t b k m)
    (ran (failed_of q BadLine) got k m)

unfoldable pub read_resume : List ℕ → Progress → List ℕ → List ℕ → List ℕ → List ℕ → List ℕ → Ran
read_resume l q got t b k m =
    if_true (has_values l 1 2) (do_resume (field_word l 1) q got t b k m)
    (ran (failed_of q BadLine) got k m)

-- a start; one of the empty name may end behind its word
unfoldable pub is_start : List ℕ → Bool
is_start l =
    if_true (starts_with l start-blank-word) true
    (same_list l start_word)

-- what the word of a line calls
unfoldable pub do_call : List ℕ → Progress → List ℕ → List ℕ → List ℕ → List ℕ → List ℕ → Ran
do_call l q got t b k m =
    if_true (is_start l) (read_start l q got t b k m)
    (if_true (starts_with l run-word) (read_run l q got t b k m)
    (if_true (starts_with l resume-word) (read_resume l q got t b k m)
    (do_step q got t b k m)))

-- a call; what is lent is kept before it
unfoldable pub read_call : List ℕ → Progress → List ℕ → List ℕ → List ℕ → List ℕ → List ℕ → Ran
read_call l q got t b k m =
    do_call l q got t b (store_from k 16385 (take (lesser_of q.lent.stack 16385) k)) (store_from m 65537 (take (lesser_of q.lent.memory 65537) m))
