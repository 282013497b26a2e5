-- Demand 3 is not empty where the host is asked: a source with an import is accepted, pauses and goes on. Without the host's list it is
-- refused.
-- Assumes nothing.
use mathlib.Core.Path.{◌≡◌, refl, sym, subst}
use mathlib.Core.Bool.{true}
use mathlib.Core.List.{List, [], ◌∷◌}
use Prim.Native.Nat.{ℕ}
use Rattle.base_limits.specs.declared.Width.TheVariants.{Bits32}
use Rattle.prog_tables.specs.Program.{program_from}
use Rattle.prog_tables.specs.Label.{Tables}
use Rattle.prog_tables.proofs.Samples.{program}
use Rattle.res_hosts.specs.Lister.{lister_hosts}
use Rattle.thm_acceptance.specs.Accepts.{is_accepted}
use Rattle.check_source.specs.Check.{lent}
use Rattle.check_source.specs.Checked.{refused}
use Rattle.thm_soundness.specs.Program.{program_by, program_of}
use Rattle.vm_definitions.specs.Claim.{Demand}
use Rattle.thm_demand.specs.CaseImport.{source, import-check, no_hosts, CaseImport}
use Rattle.thm_acceptance.proofs.Opened as checking
use Rattle.vm_definitions.proofs.Opened as running
use Rattle.thm_demand.proofs.Demand.{demand-three}

-- its rows
abbrev import-program : Tables
import-program =
    program
    ((1 ∷ 0 ∷ 0 ∷ 0 ∷ 4 ∷ 1 ∷ [])
    ∷ (13 ∷ 0 ∷ 0 ∷ 1 ∷ 0 ∷ 0 ∷ 3 ∷ 0 ∷ 2 ∷ 0 ∷ 0 ∷ 2 ∷ 3 ∷ 1 ∷ 2 ∷ [])
    ∷ (2 ∷ []) ∷ [])
    ((6 ∷ 1 ∷ 2 ∷ 5 ∷ []) ∷ (4 ∷ 0 ∷ 0 ∷ 1 ∷ []) ∷ [])
    ((111 ∷ 114 ∷ 100 ∷ 101 ∷ 114 ∷ []) ∷ (102 ∷ []) ∷ []) 0

import-checked : (program_of (import-check lister_hosts) ≡ import-program) × (is_accepted (import-check lister_hosts).answer ≡ true)
unfolding checking.opened program_by
import-checked = (refl, refl)

-- 10 at the import's name
pub import-refused : (import-check no_hosts).answer ≡ refused 10 25
unfolding checking.opened
import-refused = refl

import-run : CaseImport import-program
unfolding running.opened
import-run = (refl, refl, refl, refl, refl)

pub case-import : CaseImport (program_of (import-check lister_hosts))
case-import = subst CaseImport (sym import-checked.0) import-run

-- the demand of this source
pub import-demand : Demand (program_from Bits32 (program_of (import-check lister_hosts))) (import-check lister_hosts).bytes
import-demand = demand-three Bits32 lister_hosts source (lent 176 81 8 128 0) import-checked.1
