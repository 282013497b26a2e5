use Rattle.res_hosts.proofs.Cases.{reading}
use Rattle.res_hosts.proofs.mark_at.Goals as goal

pub returns-then-size-gt-NAME_BYTES : goal.returns-then-size-gt-NAME_BYTES
returns-then-size-gt-NAME_BYTES c =
    search reading

pub returns : goal.returns
returns c =
    search reading
