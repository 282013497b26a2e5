-- Case 2 of the papers, on tables and data.
-- Assumes nothing.
use Rattle.std.specs.Prelude.{◌≡◌, List, [], ◌∷◌, ℕ, replicate, Ok, Err}
use Rattle.base_limits.specs.declared.Width.TheVariants.{Bits32}
use Rattle.base_limits.specs.declared.State.TheVariants.{Finished}
use Rattle.base_limits.specs.Record.{fresh_of}
use Rattle.prog_tables.specs.Program.{program_from}
use Rattle.prog_tables.specs.Label.{Tables}
use Rattle.res_hosts.specs.Lister.{lister_hosts}
use Rattle.check_source.specs.Check.{Filled, lent, check_of}
use Rattle.app_listing.specs.Cases.{case1}
use Rattle.vm_definitions.specs.Step.{World, After, run_of}
use Rattle.vm_definitions.specs.Start.{start_of, start_leaves}
use Rattle.vm_definitions.specs.declared.StartError.TheVariants.{Refused}

-- its check against the list of lister and case runner, with buffers that hold 125 tokens, 6 statements, 2 labels and 4 bytes of data
abbrev pub case1-check : Filled
case1-check = check_of Bits32 lister_hosts case1 (lent 1000 162 8 128 4)

-- a world with so many stack words and 4 bytes of memory, whatever they held
abbrev pub lent_stack : ℕ → World
lent_stack n = record { machine = fresh_of 7 7 7; stack = replicate n 9; memory = replicate 4 8 }

-- a run of three steps
abbrev pub ran : Tables → List ℕ → After
ran t d = run_of (program_from Bits32 t) 3 (start_leaves (program_from Bits32 t) d (116 ∷ 111 ∷ 112 ∷ []) (30 ∷ []) (lent_stack 6))

-- "`top` with 30 gives 42 in 3 steps; 6 stack words suffice, 5 give 23"
abbrev pub CaseTwo : Tables → List ℕ → Type 0
CaseTwo t d =
    (start_of (program_from Bits32 t) d (116 ∷ 111 ∷ 112 ∷ []) (30 ∷ []) (lent_stack 6) ≡ Ok tt)
    × ((ran t d).world.machine.state ≡ Finished 42) × ((ran t d).count ≡ 3)
    × (start_of (program_from Bits32 t) d (116 ∷ 111 ∷ 112 ∷ []) (30 ∷ []) (lent_stack 5) ≡ Err (Refused 23))
