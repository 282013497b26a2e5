-- Small programs: what the definitions make of them.
-- Assumes nothing.
use Rattle.std.proofs.Common.{Ok, Err}
use mathlib.Core.Path.{◌≡◌, refl}
use Prim.Native.Nat.{ℕ}
use mathlib.Core.List.{List, [], ◌∷◌}
use lib.ListN.{replicate}
use Rattle.base_limits.specs.declared.Width.TheVariants.{Bits32, Bits16}
use Rattle.base_limits.specs.declared.State.TheVariants.{Running, Finished, Stopped}
use Rattle.prog_tables.specs.Label.{Tables, rows}
use Rattle.prog_tables.specs.Program.{program_from}
use Rattle.vm_definitions.specs.declared.Broken.TheVariants.{No, At, Somewhere}
use Rattle.vm_definitions.specs.declared.Broken.{Broken}
use Rattle.vm_definitions.specs.Start.{Started}
use Rattle.base_limits.specs.declared.State.{State}
use Rattle.base_limits.specs.Record.{fresh_of}
use Rattle.vm_definitions.specs.declared.StartError.TheVariants.{Refused, Unsound}
use Rattle.base_prelude.specs.Choice as m1
use Rattle.prog_tables.specs.Statement as m10
use Rattle.prog_tables.specs.declared.Operand.TheVariants.{Constant}
use Rattle.vm_definitions.specs.Access.{as_word}
use Rattle.vm_definitions.specs.Operands.{number_in}
use Rattle.vm_definitions.specs.Frames.{frame_words}
use Rattle.vm_definitions.specs.Frames as m15
use Rattle.vm_definitions.specs.Step.{World, After, run_of}
use Rattle.vm_definitions.specs.Start.{start_of, start_leaves}
use Rattle.vm_definitions.specs.Ledger.{started, counted, from_return, popped, counted_in, fed, ledger_of}
use Rattle.prog_tables.proofs.Samples.{program}
use Rattle.vm_definitions.proofs.Opened.{opened}
use Rattle.vm_definitions.specs.Causes.{cause_of, first_of, with_frame}
use Rattle.vm_definitions.specs.Operators.{operators, line_in, operator_of, operator_meets}

-- a state with the steps counted and the stack words in use, or a refused start
data Came : Type 0 where
  came : State → ℕ → ℕ → Came
  refused_start : ℕ → Came
  given35 : Came

abbrev shown_by : After → Broken → Came
shown_by y No = came y.world.machine.state y.count y.world.machine.used
shown_by y (At i) = given35
shown_by y Somewhere = given35

abbrev outcome_by : Tables → ℕ → World → Started → Came
outcome_by t b x (Ok _) = shown_by (run_of (program_from Bits32 t) b x) (run_of (program_from Bits32 t) b x).broken
outcome_by t b x (Err (Refused k)) = refused_start k
outcome_by t b x (Err (Unsound y)) = given35

-- a world with s stack words and m bytes of memory, all of them in use before
abbrev used : ℕ → ℕ → World
used s m = record { machine = fresh_of 7 7 7; stack = replicate s 9; memory = replicate m 8 }

-- a start of a name with arguments, then a run
abbrev ran : Tables → List ℕ → List ℕ → List ℕ → ℕ → ℕ → ℕ → Came
ran t bytes name args s m b =
    outcome_by t b (start_leaves (program_from Bits32 t) bytes name args (used s m)) (start_of (program_from Bits32 t) bytes name args (used s m))

-- ---- programs: the tables that the check leaves

-- section data
-- stock: word 12
-- section functions
-- export top
-- top:
-- function a
-- block
-- let b add a @stock
-- return b
-- end block
-- end function
abbrev p1 : Tables
p1 =
    program
    ((1 ∷ 0 ∷ 0 ∷ 0 ∷ 6 ∷ 1 ∷ [])
    ∷ (3 ∷ 0 ∷ 0 ∷ 1 ∷ 4 ∷ 1 ∷ 0 ∷ 1 ∷ [])
    ∷ (5 ∷ 0 ∷ 1 ∷ 2 ∷ 5 ∷ 0 ∷ 33 ∷ 0 ∷ 2 ∷ 0 ∷ 0 ∷ 2 ∷ 3 ∷ 6 ∷ [])
    ∷ (13 ∷ 0 ∷ 1 ∷ 2 ∷ 0 ∷ 0 ∷ 1 ∷ 0 ∷ 1 ∷ 0 ∷ 0 ∷ 2 ∷ 5 ∷ [])
    ∷ (4 ∷ 0 ∷ 1 ∷ 1 ∷ 4 ∷ [])
    ∷ (2 ∷ []) ∷ [])
    ((1 ∷ 0 ∷ 0 ∷ 5 ∷ []) ∷ (4 ∷ 0 ∷ 0 ∷ 3 ∷ []) ∷ [])
    ((115 ∷ 116 ∷ 111 ∷ 99 ∷ 107 ∷ []) ∷ (116 ∷ 111 ∷ 112 ∷ []) ∷ []) 4

-- section functions
-- export f
-- f:
-- function
-- set @3 div 1 0
-- end function
abbrev p2 : Tables
p2 =
    program
    ((1 ∷ 0 ∷ 0 ∷ 0 ∷ 3 ∷ [])
    ∷ (7 ∷ 0 ∷ 0 ∷ 1 ∷ 0 ∷ 0 ∷ 39 ∷ 0 ∷ 2 ∷ 1 ∷ 3 ∷ 1 ∷ 1 ∷ 1 ∷ [])
    ∷ (2 ∷ []) ∷ [])
    ((4 ∷ 0 ∷ 0 ∷ 1 ∷ []) ∷ [])
    ((102 ∷ []) ∷ []) 0

-- section functions
-- export f
-- f:
-- function
-- let x div @3 0
-- end function
abbrev p3 : Tables
p3 =
    program
    ((1 ∷ 0 ∷ 0 ∷ 0 ∷ 4 ∷ [])
    ∷ (5 ∷ 0 ∷ 0 ∷ 1 ∷ 3 ∷ 0 ∷ 39 ∷ 0 ∷ 2 ∷ 0 ∷ 0 ∷ 4 ∷ 3 ∷ 1 ∷ [])
    ∷ (2 ∷ []) ∷ [])
    ((4 ∷ 0 ∷ 0 ∷ 1 ∷ []) ∷ [])
    ((102 ∷ []) ∷ []) 0

-- section functions
-- export f
-- f:
-- function
-- let x div 1 0
-- end function
abbrev p4 : Tables
p4 =
    program
    ((1 ∷ 0 ∷ 0 ∷ 0 ∷ 4 ∷ [])
    ∷ (5 ∷ 0 ∷ 0 ∷ 1 ∷ 3 ∷ 0 ∷ 39 ∷ 0 ∷ 2 ∷ 0 ∷ 0 ∷ 1 ∷ 1 ∷ 1 ∷ [])
    ∷ (2 ∷ []) ∷ [])
    ((4 ∷ 0 ∷ 0 ∷ 1 ∷ []) ∷ [])
    ((102 ∷ []) ∷ []) 0

-- section functions
-- export f
-- f:
-- function
-- let x shl 1 -1
-- end function
abbrev p5 : Tables
p5 =
    program
    ((1 ∷ 0 ∷ 0 ∷ 0 ∷ 4 ∷ [])
    ∷ (5 ∷ 0 ∷ 0 ∷ 1 ∷ 3 ∷ 0 ∷ 48 ∷ 0 ∷ 2 ∷ 0 ∷ 0 ∷ 1 ∷ 1 ∷ 1 ∷ 4294967295 ∷ [])
    ∷ (2 ∷ []) ∷ [])
    ((4 ∷ 0 ∷ 0 ∷ 1 ∷ []) ∷ [])
    ((102 ∷ []) ∷ []) 0

-- section functions
-- export f
-- f:
-- function
-- let x get-byte 0 -1
-- end function
abbrev p6 : Tables
p6 =
    program
    ((1 ∷ 0 ∷ 0 ∷ 0 ∷ 4 ∷ [])
    ∷ (5 ∷ 0 ∷ 0 ∷ 1 ∷ 3 ∷ 0 ∷ 40 ∷ 0 ∷ 2 ∷ 0 ∷ 0 ∷ 1 ∷ 0 ∷ 1 ∷ 4294967295 ∷ [])
    ∷ (2 ∷ []) ∷ [])
    ((4 ∷ 0 ∷ 0 ∷ 1 ∷ []) ∷ [])
    ((102 ∷ []) ∷ []) 0

-- section functions
-- h: function
-- return 5
-- end function
-- g: function
-- return call h
-- end function
-- export f
-- f: function
-- return call g
-- end function
abbrev p7 : Tables
p7 =
    program
    ((1 ∷ 0 ∷ 0 ∷ 0 ∷ 3 ∷ [])
    ∷ (13 ∷ 0 ∷ 0 ∷ 1 ∷ 0 ∷ 0 ∷ 1 ∷ 0 ∷ 1 ∷ 0 ∷ 0 ∷ 1 ∷ 5 ∷ [])
    ∷ (2 ∷ [])
    ∷ (1 ∷ 3 ∷ 3 ∷ 0 ∷ 3 ∷ [])
    ∷ (13 ∷ 3 ∷ 3 ∷ 4 ∷ 0 ∷ 0 ∷ 2 ∷ [])
    ∷ (2 ∷ 3 ∷ 3 ∷ [])
    ∷ (1 ∷ 6 ∷ 6 ∷ 0 ∷ 3 ∷ [])
    ∷ (13 ∷ 6 ∷ 6 ∷ 7 ∷ 0 ∷ 0 ∷ 2 ∷ 3 ∷ [])
    ∷ (2 ∷ 6 ∷ 6 ∷ []) ∷ [])
    ((3 ∷ 0 ∷ 0 ∷ 1 ∷ []) ∷ (3 ∷ 3 ∷ 0 ∷ 1 ∷ []) ∷ (4 ∷ 6 ∷ 0 ∷ 1 ∷ []) ∷ [])
    ((104 ∷ []) ∷ (103 ∷ []) ∷ (102 ∷ []) ∷ []) 0

-- section data
-- byte 1
-- section functions
-- export f
-- f: function
-- let a auto-bytes 3
-- let b auto-words 1
-- return b
-- end function
abbrev p8 : Tables
p8 =
    program
    ((1 ∷ 0 ∷ 0 ∷ 0 ∷ 5 ∷ [])
    ∷ (5 ∷ 0 ∷ 0 ∷ 1 ∷ 3 ∷ 0 ∷ 36 ∷ 0 ∷ 1 ∷ 0 ∷ 0 ∷ 1 ∷ 3 ∷ [])
    ∷ (5 ∷ 0 ∷ 0 ∷ 1 ∷ 4 ∷ 0 ∷ 37 ∷ 0 ∷ 1 ∷ 0 ∷ 0 ∷ 1 ∷ 1 ∷ [])
    ∷ (13 ∷ 0 ∷ 0 ∷ 1 ∷ 0 ∷ 0 ∷ 1 ∷ 0 ∷ 1 ∷ 0 ∷ 0 ∷ 2 ∷ 4 ∷ [])
    ∷ (2 ∷ []) ∷ [])
    ((4 ∷ 0 ∷ 0 ∷ 1 ∷ []) ∷ [])
    ((102 ∷ []) ∷ []) 1

-- section data
-- byte 1
-- section functions
-- export f
-- f: function
-- let a auto-bytes 0
-- return a
-- end function
abbrev p9 : Tables
p9 =
    program
    ((1 ∷ 0 ∷ 0 ∷ 0 ∷ 4 ∷ [])
    ∷ (5 ∷ 0 ∷ 0 ∷ 1 ∷ 3 ∷ 0 ∷ 36 ∷ 0 ∷ 1 ∷ 0 ∷ 0 ∷ 1 ∷ [])
    ∷ (13 ∷ 0 ∷ 0 ∷ 1 ∷ 0 ∷ 0 ∷ 1 ∷ 0 ∷ 1 ∷ 0 ∷ 0 ∷ 2 ∷ 3 ∷ [])
    ∷ (2 ∷ []) ∷ [])
    ((4 ∷ 0 ∷ 0 ∷ 1 ∷ []) ∷ [])
    ((102 ∷ []) ∷ []) 1

-- section functions
-- g: function
-- let a 1
-- let b 2
-- return b
-- end function
-- export f
-- f: function
-- tail-call g
-- end function
abbrev p10 : Tables
p10 =
    program
    ((1 ∷ 0 ∷ 0 ∷ 0 ∷ 5 ∷ [])
    ∷ (5 ∷ 0 ∷ 0 ∷ 1 ∷ 3 ∷ 0 ∷ 1 ∷ 0 ∷ 1 ∷ 0 ∷ 0 ∷ 1 ∷ 1 ∷ [])
    ∷ (5 ∷ 0 ∷ 0 ∷ 1 ∷ 4 ∷ 0 ∷ 1 ∷ 0 ∷ 1 ∷ 0 ∷ 0 ∷ 1 ∷ 2 ∷ [])
    ∷ (13 ∷ 0 ∷ 0 ∷ 1 ∷ 0 ∷ 0 ∷ 1 ∷ 0 ∷ 1 ∷ 0 ∷ 0 ∷ 2 ∷ 4 ∷ [])
    ∷ (2 ∷ [])
    ∷ (1 ∷ 5 ∷ 5 ∷ 0 ∷ 3 ∷ [])
    ∷ (12 ∷ 5 ∷ 5 ∷ 6 ∷ 0 ∷ 0 ∷ 2 ∷ [])
    ∷ (2 ∷ 5 ∷ 5 ∷ []) ∷ [])
    ((3 ∷ 0 ∷ 0 ∷ 1 ∷ []) ∷ (4 ∷ 5 ∷ 0 ∷ 1 ∷ []) ∷ [])
    ((103 ∷ []) ∷ (102 ∷ []) ∷ []) 0

-- section functions
-- export f
-- f:
-- function a
-- ifeq a 1
-- set a 10
-- else ifeq a 2
-- set a 20
-- else
-- set a 30
-- end if
-- return a
-- end function
abbrev p11 : Tables
p11 =
    program
    ((1 ∷ 0 ∷ 0 ∷ 0 ∷ 4 ∷ 1 ∷ [])
    ∷ (14 ∷ 0 ∷ 0 ∷ 1 ∷ 4 ∷ 0 ∷ 0 ∷ 0 ∷ 2 ∷ 0 ∷ 0 ∷ 2 ∷ 3 ∷ 1 ∷ 1 ∷ [])
    ∷ (6 ∷ 0 ∷ 0 ∷ 2 ∷ 3 ∷ 0 ∷ 1 ∷ 0 ∷ 1 ∷ 0 ∷ 0 ∷ 1 ∷ 10 ∷ [])
    ∷ (21 ∷ 0 ∷ 0 ∷ 1 ∷ 8 ∷ [])
    ∷ (14 ∷ 0 ∷ 0 ∷ 1 ∷ 7 ∷ 0 ∷ 0 ∷ 0 ∷ 2 ∷ 0 ∷ 0 ∷ 2 ∷ 3 ∷ 1 ∷ 2 ∷ [])
    ∷ (6 ∷ 0 ∷ 0 ∷ 5 ∷ 3 ∷ 0 ∷ 1 ∷ 0 ∷ 1 ∷ 0 ∷ 0 ∷ 1 ∷ 20 ∷ [])
    ∷ (20 ∷ 0 ∷ 0 ∷ 1 ∷ 8 ∷ [])
    ∷ (6 ∷ 0 ∷ 0 ∷ 7 ∷ 3 ∷ 0 ∷ 1 ∷ 0 ∷ 1 ∷ 0 ∷ 0 ∷ 1 ∷ 30 ∷ [])
    ∷ (22 ∷ 0 ∷ 0 ∷ 1 ∷ [])
    ∷ (13 ∷ 0 ∷ 0 ∷ 1 ∷ 0 ∷ 0 ∷ 1 ∷ 0 ∷ 1 ∷ 0 ∷ 0 ∷ 2 ∷ 3 ∷ [])
    ∷ (2 ∷ []) ∷ [])
    ((4 ∷ 0 ∷ 0 ∷ 1 ∷ []) ∷ [])
    ((102 ∷ []) ∷ []) 0

-- section functions
-- export f
-- f:
-- function
-- let i 0
-- l: block
-- ifge i 1
-- goto m
-- end if
-- let b 7
-- m: set i add i 1
-- set i add i b
-- end block
-- iflt i 20
-- goto l
-- end if
-- return i
-- end function
abbrev p12 : Tables
p12 =
    program
    ((1 ∷ 0 ∷ 0 ∷ 0 ∷ 6 ∷ [])
    ∷ (5 ∷ 0 ∷ 0 ∷ 1 ∷ 3 ∷ 0 ∷ 1 ∷ 0 ∷ 1 ∷ 0 ∷ 0 ∷ 1 ∷ [])
    ∷ (3 ∷ 0 ∷ 0 ∷ 1 ∷ 4 ∷ 1 ∷ 0 ∷ 1 ∷ [])
    ∷ (15 ∷ 0 ∷ 2 ∷ 3 ∷ 5 ∷ 0 ∷ 0 ∷ 0 ∷ 2 ∷ 0 ∷ 0 ∷ 2 ∷ 3 ∷ 1 ∷ 1 ∷ [])
    ∷ (10 ∷ 0 ∷ 2 ∷ 4 ∷ 7 ∷ [])
    ∷ (22 ∷ 0 ∷ 2 ∷ 3 ∷ [])
    ∷ (5 ∷ 0 ∷ 2 ∷ 3 ∷ 5 ∷ 0 ∷ 1 ∷ 0 ∷ 1 ∷ 0 ∷ 0 ∷ 1 ∷ 7 ∷ [])
    ∷ (6 ∷ 0 ∷ 2 ∷ 3 ∷ 3 ∷ 0 ∷ 33 ∷ 0 ∷ 2 ∷ 0 ∷ 0 ∷ 2 ∷ 3 ∷ 1 ∷ 1 ∷ [])
    ∷ (6 ∷ 0 ∷ 2 ∷ 3 ∷ 3 ∷ 0 ∷ 33 ∷ 0 ∷ 2 ∷ 0 ∷ 0 ∷ 2 ∷ 3 ∷ 2 ∷ 5 ∷ [])
    ∷ (4 ∷ 0 ∷ 2 ∷ 1 ∷ 4 ∷ [])
    ∷ (18 ∷ 0 ∷ 0 ∷ 1 ∷ 12 ∷ 0 ∷ 0 ∷ 0 ∷ 2 ∷ 0 ∷ 0 ∷ 2 ∷ 3 ∷ 1 ∷ 20 ∷ [])
    ∷ (10 ∷ 0 ∷ 0 ∷ 11 ∷ 2 ∷ [])
    ∷ (22 ∷ 0 ∷ 0 ∷ 1 ∷ [])
    ∷ (13 ∷ 0 ∷ 0 ∷ 1 ∷ 0 ∷ 0 ∷ 1 ∷ 0 ∷ 1 ∷ 0 ∷ 0 ∷ 2 ∷ 3 ∷ [])
    ∷ (2 ∷ []) ∷ [])
    ((4 ∷ 0 ∷ 0 ∷ 1 ∷ []) ∷ (5 ∷ 2 ∷ 0 ∷ 1 ∷ []) ∷ (5 ∷ 7 ∷ 0 ∷ 1 ∷ []) ∷ [])
    ((102 ∷ []) ∷ (108 ∷ []) ∷ (109 ∷ []) ∷ []) 0

-- section functions
-- export f
-- f:
-- function
-- let x mod -2147483648 -1
-- return x
-- end function
abbrev p13 : Tables
p13 =
    program
    ((1 ∷ 0 ∷ 0 ∷ 0 ∷ 4 ∷ [])
    ∷ (5 ∷ 0 ∷ 0 ∷ 1 ∷ 3 ∷ 0 ∷ 42 ∷ 0 ∷ 2 ∷ 0 ∷ 0 ∷ 1 ∷ 2147483648 ∷ 1 ∷ 4294967295 ∷ [])
    ∷ (13 ∷ 0 ∷ 0 ∷ 1 ∷ 0 ∷ 0 ∷ 1 ∷ 0 ∷ 1 ∷ 0 ∷ 0 ∷ 2 ∷ 3 ∷ [])
    ∷ (2 ∷ []) ∷ [])
    ((4 ∷ 0 ∷ 0 ∷ 1 ∷ []) ∷ [])
    ((102 ∷ []) ∷ []) 0

-- section functions
-- export f
-- f:
-- function
-- let x div -2147483648 -1
-- return x
-- end function
abbrev p14 : Tables
p14 =
    program
    ((1 ∷ 0 ∷ 0 ∷ 0 ∷ 4 ∷ [])
    ∷ (5 ∷ 0 ∷ 0 ∷ 1 ∷ 3 ∷ 0 ∷ 39 ∷ 0 ∷ 2 ∷ 0 ∷ 0 ∷ 1 ∷ 2147483648 ∷ 1 ∷ 4294967295 ∷ [])
    ∷ (13 ∷ 0 ∷ 0 ∷ 1 ∷ 0 ∷ 0 ∷ 1 ∷ 0 ∷ 1 ∷ 0 ∷ 0 ∷ 2 ∷ 3 ∷ [])
    ∷ (2 ∷ []) ∷ [])
    ((4 ∷ 0 ∷ 0 ∷ 1 ∷ []) ∷ [])
    ((102 ∷ []) ∷ []) 0

-- section functions
-- export f
-- f:
-- function
-- let x mod 7 -2
-- return x
-- end function
abbrev p15 : Tables
p15 =
    program
    ((1 ∷ 0 ∷ 0 ∷ 0 ∷ 4 ∷ [])
    ∷ (5 ∷ 0 ∷ 0 ∷ 1 ∷ 3 ∷ 0 ∷ 42 ∷ 0 ∷ 2 ∷ 0 ∷ 0 ∷ 1 ∷ 7 ∷ 1 ∷ 4294967294 ∷ [])
    ∷ (13 ∷ 0 ∷ 0 ∷ 1 ∷ 0 ∷ 0 ∷ 1 ∷ 0 ∷ 1 ∷ 0 ∷ 0 ∷ 2 ∷ 3 ∷ [])
    ∷ (2 ∷ []) ∷ [])
    ((4 ∷ 0 ∷ 0 ∷ 1 ∷ []) ∷ [])
    ((102 ∷ []) ∷ []) 0

-- section functions
-- export f
-- f:
-- function
-- let x auto-words 1073741824
-- return x
-- end function
abbrev p16 : Tables
p16 =
    program
    ((1 ∷ 0 ∷ 0 ∷ 0 ∷ 4 ∷ [])
    ∷ (5 ∷ 0 ∷ 0 ∷ 1 ∷ 3 ∷ 0 ∷ 37 ∷ 0 ∷ 1 ∷ 0 ∷ 0 ∷ 1 ∷ 1073741824 ∷ [])
    ∷ (13 ∷ 0 ∷ 0 ∷ 1 ∷ 0 ∷ 0 ∷ 1 ∷ 0 ∷ 1 ∷ 0 ∷ 0 ∷ 2 ∷ 3 ∷ [])
    ∷ (2 ∷ []) ∷ [])
    ((4 ∷ 0 ∷ 0 ∷ 1 ∷ []) ∷ [])
    ((102 ∷ []) ∷ []) 0

-- section functions
-- export f
-- f:
-- function
-- set-byte 0 0 511
-- let x get-byte 0 0
-- return x
-- end function
abbrev p17 : Tables
p17 =
    program
    ((1 ∷ 0 ∷ 0 ∷ 0 ∷ 4 ∷ [])
    ∷ (8 ∷ 0 ∷ 0 ∷ 1 ∷ 0 ∷ 0 ∷ 0 ∷ 0 ∷ 3 ∷ 0 ∷ 0 ∷ 1 ∷ 0 ∷ 1 ∷ 0 ∷ 1 ∷ 511 ∷ [])
    ∷ (5 ∷ 0 ∷ 0 ∷ 1 ∷ 3 ∷ 0 ∷ 40 ∷ 0 ∷ 2 ∷ 0 ∷ 0 ∷ 1 ∷ 0 ∷ 1 ∷ [])
    ∷ (13 ∷ 0 ∷ 0 ∷ 1 ∷ 0 ∷ 0 ∷ 1 ∷ 0 ∷ 1 ∷ 0 ∷ 0 ∷ 2 ∷ 3 ∷ [])
    ∷ (2 ∷ []) ∷ [])
    ((4 ∷ 0 ∷ 0 ∷ 1 ∷ []) ∷ [])
    ((102 ∷ []) ∷ []) 0

-- section functions
-- g: function x y
-- return sub x y
-- end function
-- export f
-- f: function x y
-- tail-call g y x
-- end function
abbrev p18 : Tables
p18 =
    program
    ((1 ∷ 0 ∷ 0 ∷ 0 ∷ 5 ∷ 2 ∷ [])
    ∷ (13 ∷ 0 ∷ 0 ∷ 1 ∷ 0 ∷ 0 ∷ 50 ∷ 0 ∷ 2 ∷ 0 ∷ 0 ∷ 2 ∷ 3 ∷ 2 ∷ 4 ∷ [])
    ∷ (2 ∷ [])
    ∷ (1 ∷ 3 ∷ 3 ∷ 0 ∷ 5 ∷ 2 ∷ [])
    ∷ (12 ∷ 3 ∷ 3 ∷ 4 ∷ 0 ∷ 0 ∷ 2 ∷ 0 ∷ 2 ∷ 0 ∷ 0 ∷ 2 ∷ 4 ∷ 2 ∷ 3 ∷ [])
    ∷ (2 ∷ 3 ∷ 3 ∷ []) ∷ [])
    ((3 ∷ 0 ∷ 0 ∷ 1 ∷ []) ∷ (4 ∷ 3 ∷ 0 ∷ 1 ∷ []) ∷ [])
    ((103 ∷ []) ∷ (102 ∷ []) ∷ []) 0

-- section functions
-- g: function x
-- return add x 1
-- end function
-- export f
-- f: function
-- let a 4
-- set a call g a
-- call g 9
-- set @4 call g a
-- return get-word 0 1
-- end function
abbrev p19 : Tables
p19 =
    program
    ((1 ∷ 0 ∷ 0 ∷ 0 ∷ 4 ∷ 1 ∷ [])
    ∷ (13 ∷ 0 ∷ 0 ∷ 1 ∷ 0 ∷ 0 ∷ 33 ∷ 0 ∷ 2 ∷ 0 ∷ 0 ∷ 2 ∷ 3 ∷ 1 ∷ 1 ∷ [])
    ∷ (2 ∷ [])
    ∷ (1 ∷ 3 ∷ 3 ∷ 0 ∷ 4 ∷ [])
    ∷ (5 ∷ 3 ∷ 3 ∷ 4 ∷ 3 ∷ 0 ∷ 1 ∷ 0 ∷ 1 ∷ 0 ∷ 0 ∷ 1 ∷ 4 ∷ [])
    ∷ (6 ∷ 3 ∷ 3 ∷ 4 ∷ 3 ∷ 0 ∷ 2 ∷ 0 ∷ 1 ∷ 0 ∷ 0 ∷ 2 ∷ 3 ∷ [])
    ∷ (11 ∷ 3 ∷ 3 ∷ 4 ∷ 0 ∷ 0 ∷ 2 ∷ 0 ∷ 1 ∷ 0 ∷ 0 ∷ 1 ∷ 9 ∷ [])
    ∷ (7 ∷ 3 ∷ 3 ∷ 4 ∷ 0 ∷ 0 ∷ 2 ∷ 0 ∷ 1 ∷ 1 ∷ 4 ∷ 2 ∷ 3 ∷ [])
    ∷ (13 ∷ 3 ∷ 3 ∷ 4 ∷ 0 ∷ 0 ∷ 41 ∷ 0 ∷ 2 ∷ 0 ∷ 0 ∷ 1 ∷ 0 ∷ 1 ∷ 1 ∷ [])
    ∷ (2 ∷ 3 ∷ 3 ∷ []) ∷ [])
    ((3 ∷ 0 ∷ 0 ∷ 1 ∷ []) ∷ (4 ∷ 3 ∷ 0 ∷ 1 ∷ []) ∷ [])
    ((103 ∷ []) ∷ (102 ∷ []) ∷ []) 0

-- section functions
-- g: function x
-- return add x 1
-- end function
-- export f
-- f: function
-- set @3 call g 1
-- return get-word 0 1
-- end function
abbrev p20 : Tables
p20 =
    program
    ((1 ∷ 0 ∷ 0 ∷ 0 ∷ 4 ∷ 1 ∷ [])
    ∷ (13 ∷ 0 ∷ 0 ∷ 1 ∷ 0 ∷ 0 ∷ 33 ∷ 0 ∷ 2 ∷ 0 ∷ 0 ∷ 2 ∷ 3 ∷ 1 ∷ 1 ∷ [])
    ∷ (2 ∷ [])
    ∷ (1 ∷ 3 ∷ 3 ∷ 0 ∷ 3 ∷ [])
    ∷ (7 ∷ 3 ∷ 3 ∷ 4 ∷ 0 ∷ 0 ∷ 2 ∷ 0 ∷ 1 ∷ 1 ∷ 3 ∷ 1 ∷ 1 ∷ [])
    ∷ (13 ∷ 3 ∷ 3 ∷ 4 ∷ 0 ∷ 0 ∷ 41 ∷ 0 ∷ 2 ∷ 0 ∷ 0 ∷ 1 ∷ 0 ∷ 1 ∷ 1 ∷ [])
    ∷ (2 ∷ 3 ∷ 3 ∷ []) ∷ [])
    ((3 ∷ 0 ∷ 0 ∷ 1 ∷ []) ∷ (4 ∷ 3 ∷ 0 ∷ 1 ∷ []) ∷ [])
    ((103 ∷ []) ∷ (102 ∷ []) ∷ []) 0

-- section functions
-- g: function
-- block
-- let x auto-bytes 8
-- return x
-- end block
-- end function
-- export f
-- f: function
-- call g
-- let a auto-bytes 4
-- return a
-- end function
abbrev p21 : Tables
p21 =
    program
    ((1 ∷ 0 ∷ 0 ∷ 0 ∷ 5 ∷ [])
    ∷ (3 ∷ 0 ∷ 0 ∷ 1 ∷ 3 ∷ 1 ∷ [])
    ∷ (5 ∷ 0 ∷ 1 ∷ 2 ∷ 4 ∷ 0 ∷ 36 ∷ 0 ∷ 1 ∷ 0 ∷ 0 ∷ 1 ∷ 8 ∷ [])
    ∷ (13 ∷ 0 ∷ 1 ∷ 2 ∷ 0 ∷ 0 ∷ 1 ∷ 0 ∷ 1 ∷ 0 ∷ 0 ∷ 2 ∷ 4 ∷ [])
    ∷ (4 ∷ 0 ∷ 1 ∷ 1 ∷ 3 ∷ [])
    ∷ (2 ∷ [])
    ∷ (1 ∷ 6 ∷ 6 ∷ 0 ∷ 4 ∷ [])
    ∷ (11 ∷ 6 ∷ 6 ∷ 7 ∷ 0 ∷ 0 ∷ 2 ∷ [])
    ∷ (5 ∷ 6 ∷ 6 ∷ 7 ∷ 3 ∷ 0 ∷ 36 ∷ 0 ∷ 1 ∷ 0 ∷ 0 ∷ 1 ∷ 4 ∷ [])
    ∷ (13 ∷ 6 ∷ 6 ∷ 7 ∷ 0 ∷ 0 ∷ 1 ∷ 0 ∷ 1 ∷ 0 ∷ 0 ∷ 2 ∷ 3 ∷ [])
    ∷ (2 ∷ 6 ∷ 6 ∷ []) ∷ [])
    ((3 ∷ 0 ∷ 0 ∷ 1 ∷ []) ∷ (4 ∷ 6 ∷ 0 ∷ 1 ∷ []) ∷ [])
    ((103 ∷ []) ∷ (102 ∷ []) ∷ []) 0

-- section functions
-- export f
-- f: function
-- set-word 4 0 @0
-- return get-word 4 0
-- end function
abbrev p22 : Tables
p22 =
    program
    ((1 ∷ 0 ∷ 0 ∷ 0 ∷ 3 ∷ [])
    ∷ (9 ∷ 0 ∷ 0 ∷ 1 ∷ 0 ∷ 0 ∷ 0 ∷ 0 ∷ 3 ∷ 0 ∷ 0 ∷ 1 ∷ 4 ∷ 1 ∷ 0 ∷ 4 ∷ 0 ∷ [])
    ∷ (13 ∷ 0 ∷ 0 ∷ 1 ∷ 0 ∷ 0 ∷ 41 ∷ 0 ∷ 2 ∷ 0 ∷ 0 ∷ 1 ∷ 4 ∷ 1 ∷ 0 ∷ [])
    ∷ (2 ∷ []) ∷ [])
    ((4 ∷ 0 ∷ 0 ∷ 1 ∷ []) ∷ [])
    ((102 ∷ []) ∷ []) 0

-- section functions
-- g: function a
-- return a
-- end function
-- export f
-- f: function
-- return call g @3
-- end function
abbrev p23 : Tables
p23 =
    program
    ((1 ∷ 0 ∷ 0 ∷ 0 ∷ 4 ∷ 1 ∷ [])
    ∷ (13 ∷ 0 ∷ 0 ∷ 1 ∷ 0 ∷ 0 ∷ 1 ∷ 0 ∷ 1 ∷ 0 ∷ 0 ∷ 2 ∷ 3 ∷ [])
    ∷ (2 ∷ [])
    ∷ (1 ∷ 3 ∷ 3 ∷ 0 ∷ 3 ∷ [])
    ∷ (13 ∷ 3 ∷ 3 ∷ 4 ∷ 0 ∷ 0 ∷ 2 ∷ 0 ∷ 1 ∷ 0 ∷ 0 ∷ 4 ∷ 3 ∷ [])
    ∷ (2 ∷ 3 ∷ 3 ∷ []) ∷ [])
    ((3 ∷ 0 ∷ 0 ∷ 1 ∷ []) ∷ (4 ∷ 3 ∷ 0 ∷ 1 ∷ []) ∷ [])
    ((103 ∷ []) ∷ (102 ∷ []) ∷ []) 0

-- ---- what they come to: program, data, name, arguments, stack words, memory bytes, budget

case-two :
    (ran p1 (12 ∷ 0 ∷ 0 ∷ 0 ∷ []) (116 ∷ 111 ∷ 112 ∷ []) (30 ∷ []) 6 4 3
    ∷ ran p1 (12 ∷ 0 ∷ 0 ∷ 0 ∷ []) (116 ∷ 111 ∷ 112 ∷ []) (30 ∷ []) 6 3 3
    ∷ ran p1 (12 ∷ 0 ∷ 0 ∷ 0 ∷ []) (116 ∷ 111 ∷ 112 ∷ []) (30 ∷ []) 5 4 3
    ∷ ran p1 (12 ∷ 0 ∷ 0 ∷ 0 ∷ []) (116 ∷ 111 ∷ 112 ∷ []) (30 ∷ []) 6 4 2
    ∷ [])
    ≡ (came (Finished 42) 3 0
    ∷ refused_start 22
    ∷ refused_start 23
    ∷ came Running 2 6
    ∷ [])
unfolding opened
case-two = refl

operand-first :
    (ran p2 [] (102 ∷ []) [] 3 4 9
    ∷ ran p3 [] (102 ∷ []) [] 4 8 9
    ∷ ran p4 [] (102 ∷ []) [] 4 8 9
    ∷ ran p5 [] (102 ∷ []) [] 4 8 9
    ∷ ran p6 [] (102 ∷ []) [] 4 8 9
    ∷ [])
    ≡ (came (Stopped 32 1) 0 3
    ∷ came (Stopped 32 1) 0 4
    ∷ came (Stopped 30 1) 0 4
    ∷ came (Stopped 31 1) 0 4
    ∷ came (Stopped 32 1) 0 4
    ∷ [])
unfolding opened
operand-first = refl

return-chain :
    (ran p7 [] (102 ∷ []) [] 9 0 9
    ∷ ran p7 [] (102 ∷ []) [] 8 0 9
    ∷ [])
    ≡ (came (Finished 5) 3 0
    ∷ came (Stopped 33 4) 1 6
    ∷ [])
unfolding opened
return-chain = refl

auto-memory :
    (ran p8 (1 ∷ []) (102 ∷ []) [] 5 12 9
    ∷ ran p8 (1 ∷ []) (102 ∷ []) [] 5 11 9
    ∷ ran p9 (1 ∷ []) (102 ∷ []) [] 5 4 9
    ∷ ran p9 (1 ∷ []) (102 ∷ []) [] 5 3 9
    ∷ [])
    ≡ (came (Finished 8) 3 0
    ∷ came (Stopped 34 2) 1 5
    ∷ came (Finished 4) 2 0
    ∷ came (Stopped 34 1) 0 4
    ∷ [])
unfolding opened
auto-memory = refl

tail-calls :
    (ran p10 [] (102 ∷ []) [] 4 0 9
    ∷ ran p10 [] (102 ∷ []) [] 5 0 9
    ∷ ran p18 [] (102 ∷ []) (10 ∷ 3 ∷ []) 5 0 9
    ∷ [])
    ≡ (came (Stopped 33 6) 0 3
    ∷ came (Finished 2) 4 0
    ∷ came (Finished 4294967289) 2 0
    ∷ [])
unfolding opened
tail-calls = refl

arms :
    (ran p11 [] (102 ∷ []) (1 ∷ []) 4 0 9
    ∷ ran p11 [] (102 ∷ []) (2 ∷ []) 4 0 9
    ∷ ran p11 [] (102 ∷ []) (3 ∷ []) 4 0 9
    ∷ [])
    ≡ (came (Finished 10) 5 0
    ∷ came (Finished 20) 6 0
    ∷ came (Finished 30) 5 0
    ∷ [])
unfolding opened
arms = refl

block-again :
    (ran p12 [] (102 ∷ []) [] 6 0 200
    ∷ [])
    ≡ (came (Finished 20) 107 0
    ∷ [])
unfolding opened
block-again = refl

edges :
    (ran p13 [] (102 ∷ []) [] 4 8 9
    ∷ ran p14 [] (102 ∷ []) [] 4 8 9
    ∷ ran p15 [] (102 ∷ []) [] 4 8 9
    ∷ ran p16 [] (102 ∷ []) [] 4 8 9
    ∷ ran p17 [] (102 ∷ []) [] 4 8 9
    ∷ ran p22 [] (102 ∷ []) [] 3 8 9
    ∷ [])
    ≡ (came (Finished 0) 2 0
    ∷ came (Stopped 30 1) 0 4
    ∷ came (Finished 1) 2 0
    ∷ came (Stopped 34 1) 0 4
    ∷ came (Finished 255) 3 0
    ∷ came (Finished 134744072) 2 0
    ∷ [])
unfolding opened
edges = refl

calls :
    (ran p19 [] (102 ∷ []) [] 8 8 99
    ∷ ran p20 [] (102 ∷ []) [] 8 8 99
    ∷ ran p21 [] (102 ∷ []) [] 9 8 99
    ∷ [])
    ≡ (came (Finished 6) 8 0
    ∷ came (Stopped 32 4) 0 3
    ∷ came (Finished 0) 6 0
    ∷ [])
unfolding opened
calls = refl

-- an argument that cannot be read is stop 32, also where the stack has no room for the frame
arguments-first : ran p23 [] (102 ∷ []) [] 3 8 9 ≡ came (Stopped 32 4) 0 3
unfolding opened
arguments-first = refl

-- ---- the ledger and the causes

-- the return of the last function of `return-chain` closes all three
ledger-chain : ledger_of (rows p7) [] (started 6 ∷ counted 7 ∷ counted 4 ∷ counted 1 ∷ []) ≡ []
unfolding ledger_of fed counted_in popped from_return m15.is_calling m15.is_return m15.is_return_call m15.returns_import m10.is_import m10.is_call_expression m10.has_expression m10.row_at m10.row_from m1.if_true m1.if_eq m1.if_lt
ledger-chain = refl

-- 8 words open, 5 of them the last function's; the tail call of `tail-calls` to a frame of 4
tail-sum : with_frame 8 5 4 (rows p10 6) ≡ 7
unfolding with_frame m10.row_at m10.row_from m1.if_eq
tail-sum = refl

-- `mod` of the least number by -1 is no cause
mod-least : first_of Bits32 8 8 (operator_meets Bits32 0 42 2147483648 4294967295) ≡ 0
unfolding first_of operator_meets operator_of line_in operators cause_of m1.if_eq m1.if_true
mod-least = refl

-- ---- numbers past 2^w

-- a row's constant 65,537 at 16 bits
constant-word : number_in Bits16 [] 0 (Constant 65537) ≡ 1
unfolding number_in as_word
constant-word = refl

-- a frame of 5 words with one parameter, of numbers past 65,535
frame-word : frame_words Bits16 65537 65538 65539 (9 ∷ []) 5 ≡ 1 ∷ 2 ∷ 3 ∷ 9 ∷ 0 ∷ []
unfolding frame_words as_word
frame-word = refl
