use Rattle.res_names.proofs.Cases.{seconds}
use Rattle.res_names.proofs.parameter_fault.Goals as goal

pub returns-then-find_parameter-q : goal.returns-then-find_parameter-q
returns-then-find_parameter-q c =
    search seconds

pub returns : goal.returns
returns c =
    search seconds
