use Rattle.res_names.proofs.Cases.{seconds}
use Rattle.res_names.proofs.let_fault.Goals as goal

pub returns-then-is_local_taken : goal.returns-then-is_local_taken
returns-then-is_local_taken c =
    search seconds

pub returns : goal.returns
returns c =
    search seconds
