use Rattle.vm_guard.proofs.Cases.{within-row}
use Rattle.vm_guard.proofs.find_broken.Goals as goal

pub returns : goal.returns
returns c =
    search within-row
