use Rattle.vm_pauses.proofs.Cases.{asks}
use Rattle.vm_pauses.proofs.ask.Goals as goal

pub returns-in-Some : goal.returns-in-Some
returns-in-Some c =
    search asks

pub returns : goal.returns
returns c =
    search asks
