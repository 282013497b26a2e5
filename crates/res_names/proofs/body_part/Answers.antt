use Rattle.res_names.proofs.Cases.{body_is}
use Rattle.res_names.proofs.body_part.Goals as goal

pub returns : goal.returns
returns c =
    search body_is
