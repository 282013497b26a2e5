use Rattle.vm_start.proofs.Cases.{named-part}
use Rattle.vm_start.proofs.is_named.Goals as goal

pub returns : goal.returns
returns c =
    search named-part
