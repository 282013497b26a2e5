use Rattle.vm_quick_calls.proofs.Cases.{handing}
use Rattle.vm_quick_calls.proofs.hand.Goals as goal

pub returns-then-c-p : goal.returns-then-c-p
returns-then-c-p c =
    search handing

pub returns-then-z-eq0 : goal.returns-then-z-eq0
returns-then-z-eq0 c =
    search handing

pub returns : goal.returns
returns c =
    search handing
