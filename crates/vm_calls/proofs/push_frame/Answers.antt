use Rattle.vm_calls.proofs.Cases.{frames}
use Rattle.vm_calls.proofs.push_frame.Goals as goal

pub returns-then-st-used : goal.returns-then-st-used
returns-then-st-used c =
    search frames

pub returns : goal.returns
returns c =
    search frames
