use Rattle.prog_faults.proofs.Cases.{kind-ways}
use Rattle.prog_faults.proofs.kind_fault.Goals as goal

pub returns-then-is_listed : goal.returns-then-is_listed
returns-then-is_listed c =
    search kind-ways

pub returns : goal.returns
returns c =
    search kind-ways
