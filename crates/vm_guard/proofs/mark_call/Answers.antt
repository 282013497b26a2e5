use Rattle.vm_guard.proofs.Cases.{call-marked}
use Rattle.vm_guard.proofs.mark_call.Goals as goal

pub returns : goal.returns
returns c =
    search call-marked
