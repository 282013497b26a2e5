use Rattle.vm_pauses.proofs.Cases.{paused-words}
use Rattle.vm_pauses.proofs.pause_of.Goals as goal

pub returns : goal.returns
returns c =
    search paused-words
