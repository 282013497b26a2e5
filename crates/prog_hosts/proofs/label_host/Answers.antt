use Rattle.prog_hosts.proofs.Labels.{host-of}
use Rattle.prog_hosts.proofs.label_host.Goals as goal

pub returns : goal.returns
returns c =
    search host-of
