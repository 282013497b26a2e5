use Rattle.vm_guard.proofs.Cases.{callee-ways}
use Rattle.vm_guard.proofs.mark_callee.Goals as goal

pub returns-then-g-c : goal.returns-then-g-c
returns-then-g-c c =
    search callee-ways

pub returns-then-is_call : goal.returns-then-is_call
returns-then-is_call c =
    search callee-ways

pub returns : goal.returns
returns c =
    search callee-ways
