use Rattle.prog_faults.proofs.Cases.{word-ways}
use Rattle.prog_faults.proofs.size_fault.Goals as goal

pub returns-then-k-eq-FUNCTION : goal.returns-then-k-eq-FUNCTION
returns-then-k-eq-FUNCTION c =
    search word-ways

pub returns : goal.returns
returns c =
    search word-ways
