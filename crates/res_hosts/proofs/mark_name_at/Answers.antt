use Rattle.res_hosts.proofs.Cases.{name-marked}
use Rattle.res_hosts.proofs.mark_name_at.Goals as goal

pub returns : goal.returns
returns c =
    search name-marked
