use Rattle.prog_faults.proofs.Cases.{has}
use Rattle.prog_faults.proofs.has_target.Goals as goal

pub returns-then-is_test : goal.returns-then-is_test
returns-then-is_test c =
    search has

pub returns-then-k-eq-ELSE : goal.returns-then-k-eq-ELSE
returns-then-k-eq-ELSE c =
    search has

pub returns : goal.returns
returns c =
    search has
