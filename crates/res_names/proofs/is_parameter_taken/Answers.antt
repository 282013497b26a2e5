use Rattle.res_names.proofs.Cases.{seconds}
use Rattle.res_names.proofs.is_parameter_taken.Goals as goal

pub returns : goal.returns
returns c =
    search seconds
