use Rattle.vm_calls.proofs.Cases.{frames}
use Rattle.vm_calls.proofs.replace_frame.Goals as goal

pub returns-then-st-s : goal.returns-then-st-s
returns-then-st-s c =
    search frames

pub returns : goal.returns
returns c =
    search frames
