-- Lists of calls from C: each finds the record and the stack that the last one left, and any bytes of memory; its result words are any.
-- Assumes nothing.
use Rattle.std.specs.Prelude.{◌≡◌, List, [], ◌∷◌, ℕ, ◌≤◌, length, Ok, Option, Some}
use Rattle.base_limits.specs.Record.{fresh_of}
use Rattle.base_limits.specs.declared.Width.TheVariants.{Bits32}
use Rattle.prog_tables.specs.Program.{program_from}
use Rattle.prog_tables.specs.Label.{Tables, rows}
use Rattle.vm_definitions.specs.Step.{World}
use Rattle.vm_definitions.specs.Start.{start_of}
use Rattle.vm_definitions.specs.Ledger.{ledger_of}
use Rattle.vm_definitions.specs.Play.{Call, start, step, run, resume, Invocation, world_after, events_after}
use Rattle.vm_definitions.specs.Claim.{Sound, stop_memory, AllLong, started_by}
use Rattle.vm_definitions.specs.Lent.{world}
use Rattle.c_words.specs.Words.{record_size}
use Rattle.c_words.specs.Record.{record_of}
use Rattle.c_voodoo.specs.Calls.{Answered, start_call, step_call, run_call, resume_call}

-- what a host holds between two calls: the words of the record, the stack, the memory
pub record Held : Type 0 where
  pub words : List ℕ
  pub stack : List ℕ
  pub memory : List ℕ

abbrev pub held_in : Answered → Held
held_in a = record { words = a.words; stack = a.stack; memory = a.memory }

-- what the held stack and memory are to a start, which does not read the record
abbrev pub world_of : Held → World
world_of h = world (fresh_of 0 0 0) h.stack h.memory

-- a call with the memory it finds, and the result words that it is lent
pub record HostCall : Type 0 where
  pub invocation : Invocation
  pub result : List ℕ

unfoldable pub invocations : List HostCall → List Invocation
invocations [] = []
invocations (c ∷ cs) = c.invocation ∷ invocations cs

module _ (t : Tables) (bytes : List ℕ) where
  -- `voodoo_start`, `voodoo_step`, `voodoo_run`, `voodoo_resume`
  unfoldable pub answer_to : Call → List ℕ → List ℕ → List ℕ → List ℕ → Answered
  answer_to (start name args) ws st m out = start_call ws st m out t bytes name args
  answer_to step ws st m out = step_call ws st m out t
  answer_to (run budget) ws st m out = run_call ws st m out t budget
  answer_to (resume v) ws st m out = resume_call ws st m out t v

  unfoldable pub answer_of : HostCall → Held → Answered
  answer_of c h = answer_to c.invocation.call h.words h.stack c.invocation.memory c.result

  -- after a list of calls: what the host holds, and the number that each call gave
  unfoldable pub held_after : Held → List HostCall → Held
  held_after h [] = h
  held_after h (c ∷ cs) = held_after (held_in (answer_of c h)) cs

  unfoldable pub numbers_after : Held → List HostCall → List ℕ
  numbers_after h [] = []
  numbers_after h (c ∷ cs) = (answer_of c h).number ∷ numbers_after (held_in (answer_of c h)) cs

-- a list of calls that begins with a start
abbrev pub started_from : List ℕ → List ℕ → List ℕ → Held → List HostCall → List HostCall
started_from name args out h cs = record { invocation = record { call = start name args; memory = h.memory }; result = out } ∷ cs

-- "no call of the list gives 35"; a going on may give 37
unfoldable pub Without35 : List ℕ → Type 0
Without35 [] = Unit {0}
Without35 (n ∷ ns) = (n ≡ 35 → ⊥) × Without35 ns

-- the words that the host holds are those of a world
pub record Holds (h : Held) (x : World) : Type 0 where
  pub record-words : record_of h.words ≡ Some x.machine
  pub stack-words : h.stack ≡ x.stack
  pub memory-bytes : h.memory ≡ x.memory

-- The calls from C are a list of demand 3, whose claim is `Sound`: from any words of the record, stack and memory on, the first
-- call an accepted start.
unfoldable pub HostDemand : Tables → List ℕ → Type 0
HostDemand t bytes =
    (h : Held) (name args out : List ℕ) (cs : List HostCall) → record_size ≤ length h.words
    → start_of (program_from Bits32 t) bytes name args (world_of h) ≡ Ok tt → AllLong (length h.memory) (invocations cs)
    → Holds (held_after t bytes h (started_from name args out h cs))
    (world_after (program_from Bits32 t) bytes (world_of h) (started_by name args (world_of h) (invocations cs)))
    × Sound (program_from Bits32 t) (ledger_of (rows t) [] (events_after (program_from Bits32 t) bytes (world_of h) (started_by name args (world_of h) (invocations cs))))
    (stop_memory (program_from Bits32 t) bytes h.memory (world_of h) (started_by name args (world_of h) (invocations cs)))
    (world_after (program_from Bits32 t) bytes (world_of h) (started_by name args (world_of h) (invocations cs)))
    × Without35 (numbers_after t bytes h (started_from name args out h cs))
