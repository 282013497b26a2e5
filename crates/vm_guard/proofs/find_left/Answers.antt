use Rattle.vm_guard.proofs.Cases.{finding}
use Rattle.vm_guard.proofs.find_left.Goals as goal

pub loop-passed-init : goal.loop-passed-init
loop-passed-init c =
    search finding

pub returns-then-is_first : goal.returns-then-is_first
returns-then-is_first c =
    search finding

pub loop-passed-preserved : goal.loop-passed-preserved
loop-passed-preserved c =
    search finding

pub returns-then-is_called : goal.returns-then-is_called
returns-then-is_called c =
    search finding

pub returns-in-loop-passed : goal.returns-in-loop-passed
returns-in-loop-passed c =
    search finding

pub returns : goal.returns
returns c =
    search finding
