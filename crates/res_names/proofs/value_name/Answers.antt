use Rattle.res_names.proofs.Cases.{names}
use Rattle.res_names.proofs.value_name.Goals as goal

pub returns : goal.returns
returns c =
    search names
