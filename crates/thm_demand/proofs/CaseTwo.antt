-- Demand 3 is not empty: case 1 of the papers is accepted, and case 2 runs on the tables and data that its check leaves.
-- Assumes nothing.
use mathlib.Core.Path.{◌≡◌, refl, sym, subst}
use mathlib.Core.Bool.{true}
use mathlib.Core.List.{List, [], ◌∷◌, ◌++◌}
use Prim.Native.Nat.{ℕ, zero, suc}
use lib.ListN.{length}
use Rattle.base_limits.specs.declared.Width.TheVariants.{Bits32}
use Rattle.prog_tables.specs.Program.{program_from}
use Rattle.prog_tables.specs.Label.{Tables}
use Rattle.prog_tables.proofs.Samples.{program}
use Rattle.thm_acceptance.specs.Accepts.{is_accepted}
use Rattle.res_hosts.specs.Lister.{lister_hosts}
use Rattle.check_source.specs.Check.{lent}
use Rattle.app_listing.specs.Cases.{case1}
use Rattle.thm_soundness.specs.Program.{program_by, program_of}
use Rattle.vm_definitions.specs.Claim.{Demand}
use Rattle.thm_demand.specs.CaseTwo.{case1-check, CaseTwo}
use Rattle.thm_acceptance.proofs.Opened as checking
use Rattle.vm_definitions.proofs.Opened as running
use Rattle.thm_demand.proofs.Demand.{demand-three}

-- the rows of case 1
abbrev case1-program : Tables
case1-program =
    program
    ((1 ∷ 0 ∷ 0 ∷ 0 ∷ 6 ∷ 1 ∷ [])
    ∷ (3 ∷ 0 ∷ 0 ∷ 1 ∷ 4 ∷ 1 ∷ 0 ∷ 1 ∷ [])
    ∷ (5 ∷ 0 ∷ 1 ∷ 2 ∷ 5 ∷ 0 ∷ 33 ∷ 0 ∷ 2 ∷ 0 ∷ 0 ∷ 2 ∷ 3 ∷ 6 ∷ [])
    ∷ (13 ∷ 0 ∷ 1 ∷ 2 ∷ 0 ∷ 0 ∷ 1 ∷ 0 ∷ 1 ∷ 0 ∷ 0 ∷ 2 ∷ 5 ∷ [])
    ∷ (4 ∷ 0 ∷ 1 ∷ 1 ∷ 4 ∷ [])
    ∷ (2 ∷ []) ∷ [])
    ((1 ∷ 0 ∷ 0 ∷ 5 ∷ []) ∷ (4 ∷ 0 ∷ 0 ∷ 3 ∷ []) ∷ [])
    ((115 ∷ 116 ∷ 111 ∷ 99 ∷ 107 ∷ []) ∷ (116 ∷ 111 ∷ 112 ∷ []) ∷ []) 4

check-is : (program_of case1-check ≡ case1-program) × (case1-check.bytes ≡ 12 ∷ 0 ∷ 0 ∷ 0 ∷ []) × (is_accepted case1-check.answer ≡ true)
unfolding checking.opened program_by
check-is = (refl, refl, refl)

rows_run : CaseTwo case1-program (12 ∷ 0 ∷ 0 ∷ 0 ∷ [])
unfolding running.opened
rows_run = (refl, refl, refl, refl)

pub case-two : CaseTwo (program_of case1-check) case1-check.bytes
case-two = subst (λ (t : Tables). CaseTwo t case1-check.bytes) (sym check-is.0) (subst (CaseTwo case1-program) (sym check-is.1) rows_run)

-- the demand of this source
pub case1-demand : Demand (program_from Bits32 (program_of case1-check)) case1-check.bytes
case1-demand = demand-three Bits32 lister_hosts case1 (lent 1000 162 8 128 4) check-is.2
