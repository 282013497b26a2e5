use Rattle.vm_start.proofs.Cases.{begun-made}
use Rattle.vm_start.proofs.open.Goals as goal

pub returns : goal.returns
returns c =
    search begun-made
