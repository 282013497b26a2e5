-- What 35 is given for in a step and in going on, beside broken rows, and its place: for each cause of 01 a record on which it computes.
-- Assumes nothing.
use mathlib.Core.Path.{◌≡◌, refl}
use Prim.Native.Nat.{ℕ, suc, ◌-◌}
use mathlib.Core.List.{List, [], ◌∷◌, ◌++◌}
use lib.ListN.{length, replicate}
use Rattle.base_limits.specs.Limits.{stack_words}
use Rattle.base_limits.specs.declared.Width.TheVariants.{Bits32}
use Rattle.base_limits.specs.declared.State.TheVariants.{Running}
use Rattle.base_limits.specs.declared.Machine.{Machine}
use Rattle.prog_tables.specs.Label.{Tables}
use Rattle.prog_tables.specs.Program.{Program, program_from}
use Rattle.vm_definitions.specs.Broken.{step_broken, resume_broken, start_broken}
use Rattle.vm_definitions.specs.declared.Broken.{Broken}
use Rattle.vm_definitions.specs.declared.Broken.TheVariants.{No, At, Somewhere}
use Rattle.prog_tables.proofs.Samples.{program}
use Rattle.vm_definitions.proofs.Opened.{opened}

-- f: function, block, end block, call g, tail-call g, end function; g: function, return call g, end function; the kind of row 5 is
-- given
abbrev sample : ℕ → Tables
sample end =
    program
    ((1 ∷ 0 ∷ 0 ∷ 0 ∷ 5 ∷ [])
    ∷ (3 ∷ 0 ∷ 0 ∷ 1 ∷ 3 ∷ 1 ∷ [])
    ∷ (4 ∷ 0 ∷ 1 ∷ 1 ∷ 3 ∷ [])
    ∷ (11 ∷ 0 ∷ 0 ∷ 1 ∷ 0 ∷ 0 ∷ 2 ∷ 6 ∷ [])
    ∷ (12 ∷ 0 ∷ 0 ∷ 1 ∷ 0 ∷ 0 ∷ 2 ∷ 6 ∷ [])
    ∷ (end ∷ [])
    ∷ (1 ∷ 6 ∷ 6 ∷ 0 ∷ 3 ∷ [])
    ∷ (13 ∷ 6 ∷ 6 ∷ 7 ∷ 0 ∷ 0 ∷ 2 ∷ 6 ∷ [])
    ∷ (2 ∷ 6 ∷ 6 ∷ [])
    ∷ [])
    ((4 ∷ 0 ∷ 0 ∷ 1 ∷ []) ∷ [])
    ((102 ∷ []) ∷ []) 0

-- 35 of a step: next statement, frame, words in use, auto top, stack, memory
abbrev judged : ℕ → ℕ → ℕ → ℕ → List ℕ → ℕ → Broken
judged next frame used top st m =
    step_broken (program_from Bits32 (sample 2)) (record { state = Running; next = next; frame = frame; used = used; top = top }) st m

-- the words of the first frame, with its auto top of entry and the word of its block
abbrev first : ℕ → ℕ → List ℕ
first top saved = 4294967295 ∷ 4294967295 ∷ top ∷ saved ∷ 0 ∷ []

-- the first frame in a stack of n words
abbrev wide : ℕ → List ℕ
wide n = first 0 0 ++ replicate (n - length (first 0 0)) 0

-- behind it one frame of g, and two
abbrev second : ℕ → ℕ → ℕ → List ℕ
second place below top = 4294967295 ∷ 4294967295 ∷ 0 ∷ 0 ∷ 0 ∷ place ∷ below ∷ top ∷ []

abbrev third : ℕ → ℕ → List ℕ
third place top = 4294967295 ∷ 4294967295 ∷ 0 ∷ 0 ∷ 0 ∷ place ∷ 0 ∷ top ∷ 7 ∷ 5 ∷ 0 ∷ []

-- "a next statement on a `function` line or in no function"
next-statement : (judged 5 0 5 0 (first 0 0) 8 ∷ judged 6 0 3 0 (first 0 0) 8 ∷ judged 9 0 5 0 (first 0 0) 8 ∷ []) ≡ (No ∷ At 6 ∷ Somewhere ∷ [])
unfolding opened
next-statement = refl

-- "a frame that doesn't end at the stack in use or lies past the lent stack"
frame-in-use :
    (judged 3 0 4 0 (first 0 0) 8 ∷ judged 3 0 5 0 (4294967295 ∷ 4294967295 ∷ 0 ∷ 0 ∷ []) 8 ∷ judged 3 0 5 0 (first 0 0) 8 ∷ [])
    ≡ (Somewhere ∷ Somewhere ∷ No ∷ [])
unfolding opened
frame-in-use = refl

-- "an auto top (held or about to be restored) above the memory's length": by `end block`, `tail-call` and a return, not by a call
auto-tops :
    (judged 3 0 5 9 (first 0 0) 8 ∷ judged 3 0 5 8 (first 9 9) 8
    ∷ judged 2 0 5 0 (first 0 9) 8 ∷ judged 2 0 5 0 (first 9 8) 8
    ∷ judged 4 0 5 0 (first 9 0) 8 ∷ judged 4 0 5 0 (first 8 9) 8
    ∷ judged 5 0 5 0 (first 9 0) 8 ∷ judged 5 0 5 0 (first 8 9) 8
    ∷ judged 8 8 11 0 (third 3 9) 8 ∷ judged 8 8 11 0 (third 3 8) 8
    ∷ [])
    ≡ (Somewhere ∷ No ∷ Somewhere ∷ No ∷ Somewhere ∷ No ∷ Somewhere ∷ No ∷ Somewhere ∷ No ∷ [])
unfolding opened
auto-tops = refl

-- "a memory [..] over the limits"
memory-limit : (judged 3 0 5 0 (first 0 0) 65536 ∷ judged 3 0 5 0 (first 0 0) 65537 ∷ []) ≡ (No ∷ Somewhere ∷ [])
unfolding opened
memory-limit = refl

-- "a [..] stack over the limits"
stack-limit : (judged 3 0 5 0 (wide stack_words) 8 ∷ judged 3 0 5 0 (wide (suc stack_words)) 8 ∷ []) ≡ (No ∷ Somewhere ∷ [])
unfolding opened
stack-limit = refl

-- "in the frame in use and each a return leaves, the first's two marks aside, a place to return to that is no call or a caller's frame
-- that doesn't end where this one starts": one mark alone, a tail call, the caller's frame, the frame behind
frame-heads :
    (judged 3 0 5 0 (4294967295 ∷ 0 ∷ 0 ∷ 0 ∷ 0 ∷ []) 8
    ∷ judged 8 5 8 0 (second 3 0 0) 8
    ∷ judged 8 5 8 0 (second 4 0 0) 8
    ∷ judged 8 5 8 0 (second 3 1 0) 8
    ∷ judged 8 8 11 0 (third 3 0) 8
    ∷ judged 8 8 11 0 (third 4 0) 8
    ∷ [])
    ≡ (Somewhere ∷ No ∷ Somewhere ∷ Somewhere ∷ No ∷ Somewhere ∷ [])
unfolding opened
frame-heads = refl

-- ---- "a label row or count past its table", and the place: "lowest such statement, else none"

-- with a count of statements, of labels, and a length of data
abbrev counted : Tables → ℕ → ℕ → ℕ → Program
counted t c l d =
    program_from Bits32
    (record { statements = t.statements; count = c; labels = t.labels; label_count = l; names = t.names; data_length = d })

-- without data, at the `function` row's next statement
abbrev stepping : Program → Broken
stepping p = step_broken p (record { state = Running; next = 5; frame = 0; used = 5; top = 0 }) (first 0 0) 8

step-places :
    (stepping (counted (sample 2) 9 1 0)
    ∷ stepping (counted (sample 2) 9 2 0)
    ∷ stepping (counted (sample 99) 9 2 0)
    ∷ stepping (counted (sample 99) 10 1 0)
    ∷ [])
    ≡ (No ∷ Somewhere ∷ At 5 ∷ Somewhere ∷ [])
unfolding opened
step-places = refl

start-places :
    (start_broken (counted (sample 2) 9 1 0) 0
    ∷ start_broken (counted (sample 2) 9 2 0) 0
    ∷ start_broken (counted (sample 2) 9 1 4) 3
    ∷ start_broken (counted (sample 99) 9 2 0) 0
    ∷ start_broken (counted (sample 99) 9 1 4) 3
    ∷ start_broken (counted (sample 99) 10 1 0) 0
    ∷ [])
    ≡ (No ∷ Somewhere ∷ Somewhere ∷ At 5 ∷ At 5 ∷ Somewhere ∷ [])
unfolding opened
start-places = refl

-- ---- calls to imported functions, and going on

-- f: function, call g, return call b, end function; g: function, return call g, tail-call b, return call b, end function; b is
-- imported; the parameters of f are given, for which its frame has no room
abbrev importer : ℕ → Program
importer parameters =
    program_from Bits32
    (program
    ((1 ∷ 0 ∷ 0 ∷ 0 ∷ 3 ∷ parameters ∷ [])
    ∷ (11 ∷ 0 ∷ 0 ∷ 1 ∷ 0 ∷ 0 ∷ 2 ∷ 4 ∷ [])
    ∷ (13 ∷ 0 ∷ 0 ∷ 1 ∷ 0 ∷ 0 ∷ 3 ∷ [])
    ∷ (2 ∷ [])
    ∷ (1 ∷ 4 ∷ 4 ∷ 0 ∷ 3 ∷ [])
    ∷ (13 ∷ 4 ∷ 4 ∷ 5 ∷ 0 ∷ 0 ∷ 2 ∷ 4 ∷ [])
    ∷ (12 ∷ 4 ∷ 4 ∷ 5 ∷ 0 ∷ 0 ∷ 3 ∷ [])
    ∷ (13 ∷ 4 ∷ 4 ∷ 5 ∷ 0 ∷ 0 ∷ 3 ∷ [])
    ∷ (2 ∷ 4 ∷ 4 ∷ [])
    ∷ [])
    ((6 ∷ 0 ∷ 0 ∷ 1 ∷ []) ∷ (4 ∷ 0 ∷ 0 ∷ 1 ∷ []) ∷ [])
    ((98 ∷ []) ∷ (102 ∷ []) ∷ []) 0)

abbrev at : ℕ → ℕ → ℕ → Machine
at next frame used = record { state = Running; next = next; frame = frame; used = used; top = 0 }

-- a frame of f, behind it one of g with a place to return to and an auto top of entry, behind it another of g, called by `return call g`
abbrev frames : ℕ → ℕ → List ℕ
frames place top = 4294967295 ∷ 4294967295 ∷ 0 ∷ place ∷ 0 ∷ top ∷ 5 ∷ 3 ∷ 0 ∷ []

-- what the host hands in is returned: a step at `return call b` or `tail-call b` tests all frames that it will leave, at a call to a
-- function the frame in use alone; a call to an imported function is a call too
import-chain :
    (step_broken (importer 0) (at 7 6 9) (frames 1 0) 8
    ∷ step_broken (importer 0) (at 7 6 9) (frames 3 0) 8
    ∷ step_broken (importer 0) (at 7 6 9) (frames 1 9) 8
    ∷ step_broken (importer 0) (at 6 6 9) (frames 3 0) 8
    ∷ step_broken (importer 0) (at 6 6 9) (frames 1 9) 8
    ∷ step_broken (importer 0) (at 5 6 9) (frames 3 9) 8
    ∷ step_broken (importer 0) (at 7 6 9) (frames 2 0) 8
    ∷ [])
    ≡ (No ∷ Somewhere ∷ Somewhere ∷ Somewhere ∷ Somewhere ∷ No ∷ No ∷ [])
unfolding opened
import-chain = refl

-- "35 [..] checks going on as a step, also for a next statement that is no call or `tail-call` to one" (02, 3): a call to a function,
-- `end function`, past the rows; the lowest broken row, that statement included
resume-places :
    (resume_broken (importer 0) (at 2 0 3) (frames 1 0) 8
    ∷ resume_broken (importer 0) (at 7 6 9) (frames 1 0) 8
    ∷ resume_broken (importer 0) (at 6 6 9) (frames 3 0) 8
    ∷ resume_broken (importer 0) (at 1 0 3) (frames 1 0) 8
    ∷ resume_broken (importer 0) (at 3 0 3) (frames 1 0) 8
    ∷ resume_broken (importer 0) (at 9 0 3) (frames 1 0) 8
    ∷ resume_broken (importer 1) (at 8 3 6) (frames 1 0) 8
    ∷ resume_broken (importer 1) (at 2 0 3) (frames 1 0) 8
    ∷ [])
    ≡ (No ∷ No ∷ Somewhere ∷ At 1 ∷ At 3 ∷ Somewhere ∷ At 0 ∷ At 0 ∷ [])
unfolding opened
resume-places = refl
