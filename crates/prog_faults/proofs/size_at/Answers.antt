use Rattle.prog_faults.proofs.Cases.{sizes}
use Rattle.prog_faults.proofs.size_at.Goals as goal

pub returns-then-is_in_function : goal.returns-then-is_in_function
returns-then-is_in_function c =
    search sizes

pub returns : goal.returns
returns c =
    search sizes
