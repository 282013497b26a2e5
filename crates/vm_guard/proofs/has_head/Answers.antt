use Rattle.vm_guard.proofs.Cases.{head-ways}
use Rattle.vm_guard.proofs.has_head.Goals as goal

pub returns-then-is_first : goal.returns-then-is_first
returns-then-is_first c =
    search head-ways

pub returns : goal.returns
returns c =
    search head-ways
