-- Demand 3, said of a world that a list of calls led to and of the ledger it was fed: one claim for the whole list.
-- Assumes nothing.
use Rattle.std.specs.Prelude.{◌≡◌, ℕ, ◌≤◌, ◌<◌, Bool, true, false, not, List, [], ◌∷◌, length, Ok}
use Rattle.base_prelude.specs.Choice.{if_true}
use Rattle.base_limits.specs.declared.State.{State}
use Rattle.base_limits.specs.declared.State.TheVariants.{Running, Finished, Stopped, Paused}
use Rattle.base_limits.specs.declared.Pause.{Pause}
use Rattle.base_limits.specs.Record.{stopped, with_state, pause_of}
use Rattle.prog_tables.specs.Tests.{both, one_of}
use Rattle.prog_tables.specs.declared.Operand.{Operand}
use Rattle.prog_tables.specs.Program.{Program}
use Rattle.vm_definitions.specs.Frames.{importing}
use Rattle.vm_definitions.specs.Step.{World, After, step_of, resume_of}
use Rattle.vm_definitions.specs.Start.{start_of}
use Rattle.vm_definitions.specs.Causes.{word_of, first_cause, arguments_read, passes_stack}
use Rattle.vm_definitions.specs.Ledger.{Ledger, ledger_of, sum_of, last_of}
use Rattle.vm_definitions.specs.Play.{Invocation, start, invoked_on, world_after, events_after, refusals_after}
use Rattle.vm_definitions.specs.declared.Broken.{Broken}
use Rattle.vm_definitions.specs.declared.Broken.TheVariants.{No}

-- the world with its record running and another memory
unfoldable pub running_with : World → List ℕ → World
running_with x m = record { machine = with_state Running x.machine; stack = x.stack; memory = m }

-- the number of the first cause that its statement meets, the words in use being those of the ledger
unfoldable pub cause_in : Program → Ledger → World → ℕ
cause_in p es x = first_cause p (sum_of p.rows es) (last_of p.rows es) x

-- a stop that the paper lists
pub record Listed (k : ℕ) : Type 0 where
  pub from : 30 ≤ k
  pub to : k ≤ 34

-- the next statement is a call or tail call to an imported function
abbrev pub at_import : Program → World → Bool
at_import p x = importing (p.rows x.machine.next)

-- the words of some operands, read with the memory of that world
unfoldable pub words_of : Program → World → List Operand → List ℕ
words_of p x [] = []
words_of p x (o ∷ os) = word_of p.width x.stack x.machine.frame x.memory o ∷ words_of p x os

-- "the name's number and its arguments": those of the next statement, which calls an imported function
unfoldable pub pause_in : Program → World → Pause
pause_in p x = pause_of (p.labels (p.rows x.machine.next).callee).number (words_of p x (p.rows x.machine.next).operands)

-- "A call to such a name pauses the run": nothing but the record's state changes, and nothing is counted
unfoldable pub paused_as : World → Pause → After
paused_as x q =
    record { world = record { machine = with_state (Paused q) x.machine; stack = x.stack; memory = x.memory }; count = 0; broken = No }

-- the stack stop's own cause: an imported function has no frame
unfoldable pub stack_full : Program → Ledger → World → Bool
stack_full p es x = both (both (arguments_read p x) (not (at_import p x))) (passes_stack p (sum_of p.rows es) (last_of p.rows es) x)

unfoldable pub is_stopped : State → Bool
is_stopped Running = false
is_stopped (Finished v) = false
is_stopped (Stopped k i) = true
is_stopped (Paused q) = false

unfoldable pub is_paused : State → Bool
is_paused Running = false
is_paused (Finished v) = false
is_paused (Stopped k i) = false
is_paused (Paused q) = true

-- "a stopped statement changes only the record's state and is not counted"
unfoldable pub stopped_by : World → ℕ → After
stopped_by x k =
    record { world = record { machine = stopped x.machine k; stack = x.stack; memory = x.memory }; count = 0; broken = No }

-- a step from a running world
pub record StepSound (p : Program) (es : Ledger) (x : World) : Type 0 where
  -- "It never meets a jump, name, call or frame it cannot make sense of"
  pub whole : (step_of p x).broken ≡ No
  -- "its next step counts one or stops so. A statement stops exactly when such a cause is there, with the number of the first it
  -- meets."
  pub counts : cause_in p es x ≡ 0 → at_import p x ≡ false → (step_of p x).count ≡ 1
  pub goes : cause_in p es x ≡ 0 → is_stopped (step_of p x).world.machine.state ≡ false
  pub unpaused : at_import p x ≡ false → is_paused (step_of p x).world.machine.state ≡ false
  -- "Demand 3 gains 'paused' [..] as what a next step may come to, exactly at such a call with its arguments read" (02, 3)
  pub pauses : both (at_import p x) (arguments_read p x) ≡ true → step_of p x ≡ paused_as x (pause_in p x)
  pub pauses_only : is_paused (step_of p x).world.machine.state ≡ true → both (at_import p x) (arguments_read p x) ≡ true
  pub stops : 0 < cause_in p es x → step_of p x ≡ stopped_by x (cause_in p es x)
  pub listed : 0 < cause_in p es x → Listed (cause_in p es x)
  -- "The stack stop comes exactly when a call's or tail call's arguments are read and that sum with the new frame, for a tail call less
  -- the old one, passes the words lent."
  pub full : stack_full p es x ≡ true → cause_in p es x ≡ 33
  pub full_only : cause_in p es x ≡ 33 → stack_full p es x ≡ true

-- "or has stopped for one of the five listed causes": at its statement, for the first cause it met with s, the memory that the
-- stopped step had
pub record StopSound (p : Program) (es : Ledger) (s : List ℕ) (x : World) (k i : ℕ) : Type 0 where
  pub listed : Listed k
  pub at : i ≡ x.machine.next
  pub long : length s ≡ length x.memory
  pub met : cause_in p es (running_with x s) ≡ k

-- "a state whose going on counts one [..] for any words handed in" (02, 3): v the word, with neither 35 nor 37 nor a stop
pub record ResumeSound (p : Program) (v : ℕ) (x : World) : Type 0 where
  pub taken : (resume_of p v x).unpaused ≡ false
  pub whole : (resume_of p v x).after.broken ≡ No
  pub counts : (resume_of p v x).after.count ≡ 1
  pub goes : is_stopped (resume_of p v x).after.world.machine.state ≡ false

-- the world with another memory
unfoldable pub with_memory : World → List ℕ → World
with_memory x m = record { machine = x.machine; stack = x.stack; memory = m }

-- "paused": at a call to an imported function, with its number and its arguments read with s, the memory that the paused step had
pub record PauseSound (p : Program) (s : List ℕ) (x : World) (q : Pause) : Type 0 where
  pub long : length s ≡ length x.memory
  pub at : both (at_import p x) (arguments_read p (running_with x s)) ≡ true
  pub asks : q ≡ pause_in p (running_with x s)
  pub going : (v : ℕ) (m : List ℕ) → length m ≡ length x.memory → ResumeSound p v (with_memory x m)

-- what a state promises: "for any memory of that length" where it runs
unfoldable pub StateSound : Program → Ledger → List ℕ → World → State → Type 0
StateSound p es s x Running = (m : List ℕ) → length m ≡ length x.memory → StepSound p es (running_with x m)
StateSound p es s x (Finished v) = es ≡ []
StateSound p es s x (Stopped k i) = StopSound p es s x k i
StateSound p es s x (Paused q) = PauseSound p s x q

unfoldable pub is_finished : State → Bool
is_finished Running = false
is_finished (Finished v) = true
is_finished (Stopped k i) = false
is_finished (Paused q) = false

-- the demand of one world, s being the memory that its stopped or paused step had
pub record Sound (p : Program) (es : Ledger) (s : List ℕ) (x : World) : Type 0 where
  -- "the machine has finished, exactly when no function is open in the ledger of 01": one half is in its state
  pub finished : es ≡ [] → is_finished x.machine.state ≡ true
  pub state : StateSound p es s x x.machine.state
  -- "The stack in use is the sum of the frame sizes of the functions open in the ledger."
  pub used : x.machine.used ≡ sum_of p.rows es

-- stopped or paused
unfoldable pub is_held : State → Bool
is_held z = one_of (is_stopped z) (is_paused z)

-- The memory that a stopped or paused step had, after a call that leaves world y of world x, s being that memory before the call. A
-- stop and a pause change no memory, so a call that comes to one leaves it in y. A call that finds the record so and leaves it so has
-- no step: the memory stays s, whatever memory the call finds.
unfoldable pub stop_memory_in : List ℕ → World → World → List ℕ
stop_memory_in s x y = if_true (both (is_held x.machine.state) (is_held y.machine.state)) s y.memory

-- the same after a list of invocations from world x
unfoldable pub stop_memory : Program → List ℕ → List ℕ → World → List Invocation → List ℕ
stop_memory p bytes s x [] = s
stop_memory p bytes s x (c ∷ cs) =
    stop_memory p bytes (stop_memory_in s x (invoked_on p bytes c x).world) (invoked_on p bytes c x).world cs

-- "its length stays": every memory of some invocations has n bytes
unfoldable pub AllLong : ℕ → List Invocation → Type 0
AllLong n [] = Unit {0}
AllLong n (c ∷ cs) = (length c.memory ≡ n) × AllLong n cs

-- "no call of the list gives 35"
unfoldable pub NoneBroken : List Broken → Type 0
NoneBroken [] = Unit {0}
NoneBroken (b ∷ bs) = (b ≡ No) × NoneBroken bs

-- a list of invocations that begins with a start
unfoldable pub started_by : List ℕ → List ℕ → World → List Invocation → List Invocation
started_by name args x cs = record { call = start name args; memory = x.memory } ∷ cs

-- "Take [..] any list of starts, steps and runs on its tables and data, the first an accepted start", and "in its list the going on, refused
-- ones too" (02, 3): from any record, stack and memory
unfoldable pub Demand : Program → List ℕ → Type 0
Demand p bytes =
    (x : World) (name args : List ℕ) (cs : List Invocation) → start_of p bytes name args x ≡ Ok tt → AllLong (length x.memory) cs
    → Sound p (ledger_of p.rows [] (events_after p bytes x (started_by name args x cs)))
    (stop_memory p bytes x.memory x (started_by name args x cs)) (world_after p bytes x (started_by name args x cs))
    × NoneBroken (refusals_after p bytes x (started_by name args x cs))
