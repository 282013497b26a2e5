-- Calls to imported functions, computed: what a pause holds in each form of call, what going on does there, and what 37 is given for.
-- Assumes nothing.
use mathlib.Core.Path.{◌≡◌, refl}
use mathlib.Core.Bool.{true, false}
use Prim.Native.Nat.{ℕ}
use mathlib.Core.Option.{none}
use mathlib.Core.List.{List, [], ◌∷◌, ◌++◌}
use lib.ListN.{replicate}
use Rattle.base_limits.specs.declared.Width.TheVariants.{Bits32}
use Rattle.base_limits.specs.declared.State.{State}
use Rattle.base_limits.specs.declared.State.TheVariants.{Running, Finished, Stopped, Paused}
use Rattle.base_limits.specs.Record.{fresh_of, pause_of}
use Rattle.prog_tables.specs.Label.{Tables, rows}
use Rattle.prog_tables.specs.Layout.{import_expression, call_expression, plain, constant_operand, local_operand, at_constant, function_label, exported_function, import_label}
use Rattle.prog_tables.specs.Program.{program_from}
use Rattle.prog_tables.specs.WellFormed.{well_formed}
use Rattle.lang_kinds.specs.Kinds as kind
use Rattle.prog_tables.proofs.Samples.{program}
use Rattle.prog_tables.proofs.Opened as tables
use Rattle.vm_definitions.specs.Step.{World, step_of, run_of, Continued, resume_of}
use Rattle.vm_definitions.specs.Start.{start_leaves}
use Rattle.vm_definitions.specs.Ledger.{started, counted, from_return, popped, counted_in, fed, ledger_of}
use Rattle.vm_definitions.specs.declared.Broken.TheVariants.{No}
use Rattle.vm_definitions.proofs.Opened.{opened}

-- ---- programs: the tables that the check leaves

abbrev bath : List ℕ
bath = 98 ∷ 97 ∷ 116 ∷ 104 ∷ []

abbrev order : List ℕ
order = 111 ∷ 114 ∷ 100 ∷ 101 ∷ 114 ∷ []

-- labels 0 and 1: `import bath`, which is number 4 of the host's list, with one argument, and `import order`, number 2, with two
abbrev imports : List (List ℕ)
imports = (import_label ∷ 4 ∷ 1 ∷ 4 ∷ []) ∷ (import_label ∷ 2 ∷ 2 ∷ 5 ∷ []) ∷ []

-- import bath
-- import order
-- export f
-- f: function
-- call order 7 @0
-- let x call bath 5
-- set x call order x 3
-- set @4 call bath x
-- return call order x @4
-- end function
abbrev p1 : Tables
p1 =
    program
    ((kind.function ∷ 0 ∷ 0 ∷ 0 ∷ 4 ∷ [])
    ∷ (kind.call ∷ 0 ∷ 0 ∷ 1 ∷ 0 ∷ 0 ∷ import_expression ∷ 1 ∷ 2 ∷ 0 ∷ 0 ∷ constant_operand ∷ 7 ∷ at_constant ∷ 0 ∷ [])
    ∷ (kind.let_local ∷ 0 ∷ 0 ∷ 1 ∷ 3 ∷ 0 ∷ import_expression ∷ 0 ∷ 1 ∷ 0 ∷ 0 ∷ constant_operand ∷ 5 ∷ [])
    ∷ (kind.set ∷ 0 ∷ 0 ∷ 1 ∷ 3 ∷ 0 ∷ import_expression ∷ 1 ∷ 2 ∷ 0 ∷ 0 ∷ local_operand ∷ 3 ∷ constant_operand ∷ 3 ∷ [])
    ∷ (kind.set_at ∷ 0 ∷ 0 ∷ 1 ∷ 0 ∷ 0 ∷ import_expression ∷ 0 ∷ 1 ∷ constant_operand ∷ 4 ∷ local_operand ∷ 3 ∷ [])
    ∷ (kind.return ∷ 0 ∷ 0 ∷ 1 ∷ 0 ∷ 0 ∷ import_expression ∷ 1 ∷ 2 ∷ 0 ∷ 0 ∷ local_operand ∷ 3 ∷ at_constant ∷ 4 ∷ [])
    ∷ (kind.end_function ∷ [])
    ∷ [])
    (imports ++ (exported_function ∷ 0 ∷ 0 ∷ 1 ∷ []) ∷ [])
    (bath ∷ order ∷ (102 ∷ []) ∷ []) 0

-- import bath
-- import order
-- h: function x
-- tail-call bath x
-- end function
-- g: function
-- return call h 6
-- end function
-- export f
-- f: function
-- return call g
-- end function
-- export e
-- e: function
-- let y call h 9
-- return y
-- end function
abbrev p2 : Tables
p2 =
    program
    ((kind.function ∷ 0 ∷ 0 ∷ 0 ∷ 4 ∷ 1 ∷ [])
    ∷ (kind.tail_call ∷ 0 ∷ 0 ∷ 1 ∷ 0 ∷ 0 ∷ import_expression ∷ 0 ∷ 1 ∷ 0 ∷ 0 ∷ local_operand ∷ 3 ∷ [])
    ∷ (kind.end_function ∷ [])
    ∷ (kind.function ∷ 3 ∷ 3 ∷ 0 ∷ 3 ∷ [])
    ∷ (kind.return ∷ 3 ∷ 3 ∷ 4 ∷ 0 ∷ 0 ∷ call_expression ∷ 0 ∷ 1 ∷ 0 ∷ 0 ∷ constant_operand ∷ 6 ∷ [])
    ∷ (kind.end_function ∷ 3 ∷ 3 ∷ [])
    ∷ (kind.function ∷ 6 ∷ 6 ∷ 0 ∷ 3 ∷ [])
    ∷ (kind.return ∷ 6 ∷ 6 ∷ 7 ∷ 0 ∷ 0 ∷ call_expression ∷ 3 ∷ [])
    ∷ (kind.end_function ∷ 6 ∷ 6 ∷ [])
    ∷ (kind.function ∷ 9 ∷ 9 ∷ 0 ∷ 4 ∷ [])
    ∷ (kind.let_local ∷ 9 ∷ 9 ∷ 10 ∷ 3 ∷ 0 ∷ call_expression ∷ 0 ∷ 1 ∷ 0 ∷ 0 ∷ constant_operand ∷ 9 ∷ [])
    ∷ (kind.return ∷ 9 ∷ 9 ∷ 10 ∷ 0 ∷ 0 ∷ plain ∷ 0 ∷ 1 ∷ 0 ∷ 0 ∷ local_operand ∷ 3 ∷ [])
    ∷ (kind.end_function ∷ 9 ∷ 9 ∷ [])
    ∷ [])
    (imports ++ (function_label ∷ 0 ∷ 0 ∷ 1 ∷ []) ∷ (function_label ∷ 3 ∷ 0 ∷ 1 ∷ []) ∷ (exported_function ∷ 6 ∷ 0 ∷ 1 ∷ []) ∷ (exported_function ∷ 9 ∷ 0 ∷ 1 ∷ []) ∷ [])
    (bath ∷ order ∷ (104 ∷ []) ∷ (103 ∷ []) ∷ (102 ∷ []) ∷ (101 ∷ []) ∷ []) 0

tables-good : (well_formed (program_from Bits32 p1) ∷ well_formed (program_from Bits32 p2) ∷ []) ≡ true ∷ true ∷ []
unfolding tables.opened
tables-good = refl

-- ---- worlds

-- eight bytes: the words 1 and 2
abbrev two : List ℕ
two = 1 ∷ 0 ∷ 0 ∷ 0 ∷ 2 ∷ 0 ∷ 0 ∷ 0 ∷ []

-- a started function, with so many stack words, all of them in use before
abbrev begun : Tables → List ℕ → ℕ → World
begun t name s = start_leaves (program_from Bits32 t) [] name [] (record { machine = fresh_of 7 7 7; stack = replicate s 9; memory = two })

-- after a run, which ends at the next pause
abbrev ran : Tables → World → World
ran t x = (run_of (program_from Bits32 t) 9 x).world

-- after going on with a word
abbrev handed : Tables → ℕ → World → World
handed t v x = (resume_of (program_from Bits32 t) v x).after.world

-- with other bytes in memory
abbrev found : List ℕ → World → World
found m x = record { machine = x.machine; stack = x.stack; memory = m }

abbrev state_of : World → State
state_of x = x.machine.state

-- a pause at each of p1's calls
abbrev bare : World
bare = ran p1 (begun p1 (102 ∷ []) 4)

abbrev assigning : World
assigning = ran p1 (handed p1 10 bare)

abbrev setting : World
setting = ran p1 (handed p1 20 assigning)

abbrev storing : World
storing = ran p1 (handed p1 30 setting)

abbrev returning : World
returning = ran p1 (handed p1 77 storing)

-- ---- pauses

-- "A call to such a name pauses the run with the name's number and its arguments": bare, `let`, `set`, `set @`, `return call`
pause-forms :
    (state_of bare ∷ state_of assigning ∷ state_of setting ∷ state_of storing ∷ state_of returning ∷ [])
    ≡ (Paused (pause_of 2 (7 ∷ 1 ∷ []))
    ∷ Paused (pause_of 4 (5 ∷ []))
    ∷ Paused (pause_of 2 (20 ∷ 3 ∷ []))
    ∷ Paused (pause_of 4 (30 ∷ []))
    ∷ Paused (pause_of 2 (30 ∷ 77 ∷ []))
    ∷ [])
unfolding opened
pause-forms = refl

-- the step itself: nothing but the record's state changes, and nothing is counted
pause-step :
    step_of (program_from Bits32 p1) (begun p1 (102 ∷ []) 4)
    ≡ record {
      world =
          record {
            machine = record { state = Paused (pause_of 2 (7 ∷ 1 ∷ [])); next = 1; frame = 0; used = 4; top = 0 };
            stack = 4294967295 ∷ 4294967295 ∷ 0 ∷ 0 ∷ [];
            memory = two;
          };
      count = 0;
      broken = No;
    }
unfolding opened
pause-step = refl

-- through two `return call`s to a `tail-call`, and through a `let`: arguments of functions are those of the frame in use
abbrev deep : World
deep = ran p2 (begun p2 (102 ∷ []) 10)

abbrev called : World
called = ran p2 (begun p2 (101 ∷ []) 8)

tail-pauses :
    (deep.machine ∷ called.machine ∷ [])
    ≡ (record { state = Paused (pause_of 4 (6 ∷ [])); next = 1; frame = 6; used = 10; top = 0 }
    ∷ record { state = Paused (pause_of 4 (9 ∷ [])); next = 1; frame = 4; used = 8; top = 0 }
    ∷ [])
unfolding opened
tail-pauses = refl

-- a run ends at a pause with the count so far, and a paused record is given back with count 0
pause-counts :
    ((run_of (program_from Bits32 p1) 9 (begun p1 (102 ∷ []) 4)).count
    ∷ (run_of (program_from Bits32 p2) 9 (begun p2 (102 ∷ []) 10)).count
    ∷ (run_of (program_from Bits32 p2) 9 deep).count
    ∷ (step_of (program_from Bits32 p2) deep).count
    ∷ [])
    ≡ 0 ∷ 2 ∷ 0 ∷ 0 ∷ []
unfolding opened
pause-counts = refl

-- arguments that cannot be read are stop 32, and so is the address of `set @`
abbrev short : List ℕ
short = 1 ∷ 0 ∷ 0 ∷ 0 ∷ []

pause-stops :
    (state_of (ran p1 (found [] (begun p1 (102 ∷ []) 4)))
    ∷ state_of (ran p1 (found short (handed p1 30 setting)))
    ∷ state_of (ran p1 (found short (handed p1 77 storing)))
    ∷ [])
    ≡ (Stopped 32 1 ∷ Stopped 32 4 ∷ Stopped 32 5 ∷ [])
unfolding opened
pause-stops = refl

-- ---- going on

-- state, next statement, words in use; stack and memory
data Shown : Type 0 where
  shows : State → ℕ → ℕ → List ℕ → List ℕ → Shown

abbrev shown : World → Shown
shown x = shows x.machine.state x.machine.next x.machine.used x.stack x.memory

-- p1's stack with a word in x
abbrev holding : ℕ → List ℕ
holding v = 4294967295 ∷ 4294967295 ∷ 0 ∷ v ∷ []

-- "The host hands in one word as the function's result": a bare `call` drops it, `let`, `set` and `set @` store it, `return call`
-- returns it
going_on_lem :
    (shown (handed p1 10 bare)
    ∷ shown (handed p1 20 assigning)
    ∷ shown (handed p1 30 setting)
    ∷ shown (handed p1 77 storing)
    ∷ shown (handed p1 55 returning)
    ∷ [])
    ≡ (shows Running 2 4 (holding 0) two
    ∷ shows Running 3 4 (holding 20) two
    ∷ shows Running 4 4 (holding 30) two
    ∷ shows Running 5 4 (holding 30) (1 ∷ 0 ∷ 0 ∷ 0 ∷ 77 ∷ 0 ∷ 0 ∷ 0 ∷ [])
    ∷ shows (Finished 55) 4294967295 0 (holding 30) (1 ∷ 0 ∷ 0 ∷ 0 ∷ 77 ∷ 0 ∷ 0 ∷ 0 ∷ [])
    ∷ [])
unfolding opened
going_on_lem = refl

-- "A `tail-call` to one pauses likewise and then returns the word": to the end through two `return call`s, or behind the call
going-back :
    (state_of (handed p2 8 deep) ∷ state_of (handed p2 8 called) ∷ state_of (ran p2 (handed p2 8 called)) ∷ [])
    ≡ (Finished 8 ∷ Running ∷ Finished 8 ∷ [])
unfolding opened
going-back = refl

-- "counted when it goes on"; a word is taken modulo 2^32
going-counts :
    ((resume_of (program_from Bits32 p1) 10 bare).after.count
    ∷ (resume_of (program_from Bits32 p1) 55 returning).after.count
    ∷ (resume_of (program_from Bits32 p2) 8 deep).after.count
    ∷ [])
    ≡ 1 ∷ 1 ∷ 1 ∷ []
unfolding opened
going-counts = refl

word-taken : (handed p1 4294967297 assigning).stack ≡ holding 1
unfolding opened
word-taken = refl

-- arguments are not read again: the words of the pause stay with other bytes, and even a memory in which `@0` cannot be read lets it go on
abbrev changed : World
changed = found (9 ∷ 0 ∷ 0 ∷ 0 ∷ 9 ∷ 0 ∷ 0 ∷ 0 ∷ []) bare

arguments-stay :
    (state_of changed ∷ state_of (handed p1 10 changed) ∷ state_of (handed p1 10 (found [] bare)) ∷ [])
    ≡ (Paused (pause_of 2 (7 ∷ 1 ∷ [])) ∷ Running ∷ Running ∷ [])
unfolding opened
arguments-stay = refl

-- the address of `set @` is: outside the demand, with a shorter memory, its store is stop 32
store-stops : shown (handed p1 77 (found short storing)) ≡ shows (Stopped 32 4) 4 4 (holding 30) short
unfolding opened
store-stops = refl

-- ---- 37

-- "37 [..] for going on with a record that isn't paused, which changes nothing": running, finished, stopped; not for a paused one
abbrev going : World → Continued
going x = resume_of (program_from Bits32 p1) 10 x

abbrev running : World
running = begun p1 (102 ∷ []) 4

abbrev finished : World
finished = handed p1 55 returning

abbrev stopped : World
stopped = ran p1 (found [] running)

unpaused-states :
    ((going running).unpaused ∷ (going finished).unpaused ∷ (going stopped).unpaused ∷ (going bare).unpaused ∷ [])
    ≡ true ∷ true ∷ true ∷ false ∷ []
unfolding opened
unpaused-states = refl

-- any such record stays: `resume-refused` (proofs/Lists)
unpaused-stays : shown (going stopped).after.world ≡ shows (Stopped 32 1) 1 4 (holding 0) []
unfolding opened
unpaused-stays = refl

-- "before 35": a record that is broken and not paused
abbrev torn : World
torn = record { machine = running.machine; stack = []; memory = two }

unpaused-first : (going torn).unpaused ≡ true
unfolding opened
unpaused-first = refl

unbroken-first : (going torn).after.broken ≡ No
unfolding opened
unbroken-first = refl

-- "a step or run gives a paused one back with count 0, before any 35"
abbrev held : World
held = record { machine = bare.machine; stack = []; memory = two }

paused-first :
    ((step_of (program_from Bits32 p1) held).broken ∷ (run_of (program_from Bits32 p1) 9 held).broken ∷ []) ≡ No ∷ No ∷ []
unfolding opened
paused-first = refl

-- ---- the ledger: "its `tail-call` or `return call` is as a return, any other call to it changes nothing"

ledger-stays : ledger_of (rows p1) [] (started 0 ∷ counted 1 ∷ counted 2 ∷ counted 3 ∷ counted 4 ∷ []) ≡ record { func = 0; call = none } ∷ []
unfolding tables.opened opened ledger_of fed counted_in popped from_return
ledger-stays = refl

ledger-returns : ledger_of (rows p1) [] (started 0 ∷ counted 5 ∷ []) ≡ []
unfolding tables.opened opened ledger_of fed counted_in popped from_return
ledger-returns = refl

ledger-tail : ledger_of (rows p2) [] (started 9 ∷ counted 10 ∷ counted 1 ∷ []) ≡ record { func = 9; call = none } ∷ []
unfolding tables.opened opened ledger_of fed counted_in popped from_return
ledger-tail = refl

ledger-all : ledger_of (rows p2) [] (started 6 ∷ counted 7 ∷ counted 4 ∷ counted 1 ∷ []) ≡ []
unfolding tables.opened opened ledger_of fed counted_in popped from_return
ledger-all = refl
