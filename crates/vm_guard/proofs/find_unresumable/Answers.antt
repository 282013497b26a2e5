use Rattle.vm_guard.proofs.Cases.{within-resume}
use Rattle.vm_guard.proofs.find_unresumable.Goals as goal

pub returns : goal.returns
returns c =
    search within-resume
