use Rattle.vm_quick_calls.proofs.Cases.{push-built}
use Rattle.vm_quick_calls.proofs.push_frame.Goals as goal

pub returns : goal.returns
returns c =
    search push-built
