use Rattle.vm_guard.proofs.Cases.{resumptions}
use Rattle.vm_guard.proofs.resumption.Goals as goal

pub loop-passed-init : goal.loop-passed-init
loop-passed-init c =
    search resumptions

pub returns-then-is_first : goal.returns-then-is_first
returns-then-is_first c =
    search resumptions

pub loop-passed-preserved : goal.loop-passed-preserved
loop-passed-preserved c =
    search resumptions

pub returns-in-loop-passed : goal.returns-in-loop-passed
returns-in-loop-passed c =
    search resumptions

pub returns : goal.returns
returns c =
    search resumptions
