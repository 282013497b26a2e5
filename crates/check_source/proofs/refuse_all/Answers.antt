use Rattle.check_source.proofs.Cases.{refuse-is}
use Rattle.check_source.proofs.refuse_all.Goals as goal

pub returns : goal.returns
returns c =
    search refuse-is
