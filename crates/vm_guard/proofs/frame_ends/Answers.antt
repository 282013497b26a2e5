use Rattle.vm_guard.proofs.Cases.{ends-ways}
use Rattle.vm_guard.proofs.frame_ends.Goals as goal

pub returns-then-end-used : goal.returns-then-end-used
returns-then-end-used c =
    search ends-ways

pub returns : goal.returns
returns c =
    search ends-ways
