use Rattle.vm_calls.proofs.Cases.{calls}
use Rattle.vm_calls.proofs.tail_call.Goals as goal

pub returns-in-Some : goal.returns-in-Some
returns-in-Some c =
    search calls

pub returns-in-None : goal.returns-in-None
returns-in-None c =
    search calls
