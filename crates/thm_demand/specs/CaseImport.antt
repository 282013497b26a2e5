-- A source with an import, from its bytes to its end: its check, a pause, and the going on.
-- Assumes nothing.
use Rattle.std.specs.Prelude.{◌≡◌, List, [], ◌∷◌, ◌++◌, ℕ, Ok}
use Rattle.base_limits.specs.declared.Width.TheVariants.{Bits32}
use Rattle.base_limits.specs.declared.State.TheVariants.{Finished, Paused}
use Rattle.base_limits.specs.Record.{pause_of}
use Rattle.prog_tables.specs.Program.{program_from}
use Rattle.prog_tables.specs.Label.{Tables}
use Rattle.prog_tables.specs.Hosts.{Hosts}
use Rattle.check_source.specs.Check.{Filled, lent, check_of}
use Rattle.vm_definitions.specs.Step.{World, After, run_of, Continued, resume_of}
use Rattle.vm_definitions.specs.Start.{start_of, start_leaves}
use Rattle.thm_demand.specs.CaseTwo.{lent_stack}

-- `section functions`, `import order`, `export f`, `f: function a`, `return call order a 2`, `end function`
abbrev pub source : List ℕ
source =
    (115 ∷ 101 ∷ 99 ∷ 116 ∷ 105 ∷ 111 ∷ 110 ∷ 32 ∷ 102 ∷ 117 ∷ 110 ∷ 99 ∷ 116 ∷ 105 ∷ 111 ∷ 110 ∷ 115 ∷ 10 ∷ [])
    ++ (105 ∷ 109 ∷ 112 ∷ 111 ∷ 114 ∷ 116 ∷ 32 ∷ 111 ∷ 114 ∷ 100 ∷ 101 ∷ 114 ∷ 10 ∷ [])
    ++ (101 ∷ 120 ∷ 112 ∷ 111 ∷ 114 ∷ 116 ∷ 32 ∷ 102 ∷ 10 ∷ [])
    ++ (102 ∷ 58 ∷ 32 ∷ 102 ∷ 117 ∷ 110 ∷ 99 ∷ 116 ∷ 105 ∷ 111 ∷ 110 ∷ 32 ∷ 97 ∷ 10 ∷ [])
    ++ (114 ∷ 101 ∷ 116 ∷ 117 ∷ 114 ∷ 110 ∷ 32 ∷ 99 ∷ 97 ∷ 108 ∷ 108 ∷ 32 ∷ 111 ∷ 114 ∷ 100 ∷ 101 ∷ 114 ∷ 32 ∷ 97 ∷ 32 ∷ 50 ∷ 10 ∷ [])
    ++ (101 ∷ 110 ∷ 100 ∷ 32 ∷ 102 ∷ 117 ∷ 110 ∷ 99 ∷ 116 ∷ 105 ∷ 111 ∷ 110 ∷ 10 ∷ [])

-- its check, with buffers that hold 22 tokens, 3 statements, 2 labels and no data
abbrev pub import-check : Hosts → Filled
import-check h = check_of Bits32 h source (lent 176 81 8 128 0)

-- a list without names
abbrev pub no_hosts : Hosts
no_hosts = record { words = []; names = [] }

-- a run of at most five steps of `f` with 30, its frame being all that is lent
abbrev pub asked : Tables → After
asked t = run_of (program_from Bits32 t) 5 (start_leaves (program_from Bits32 t) [] (102 ∷ []) (30 ∷ []) (lent_stack 4))

-- going on with 42
abbrev pub given : Tables → Continued
given t = resume_of (program_from Bits32 t) 42 (asked t).world

-- it pauses at once, with the number of `order` and its arguments, and returns the word handed in, as one step
abbrev pub CaseImport : Tables → Type 0
CaseImport t =
    (start_of (program_from Bits32 t) [] (102 ∷ []) (30 ∷ []) (lent_stack 4) ≡ Ok tt)
    × ((asked t).world.machine.state ≡ Paused (pause_of 1 (30 ∷ 2 ∷ []))) × ((asked t).count ≡ 0)
    × ((given t).after.world.machine.state ≡ Finished 42) × ((given t).after.count ≡ 1)
