use Rattle.prog_faults.proofs.Cases.{sizes}
use Rattle.prog_faults.proofs.is_in_function.Goals as goal

pub returns-then-g-c : goal.returns-then-g-c
returns-then-g-c c =
    search sizes

pub returns : goal.returns
returns c =
    search sizes
