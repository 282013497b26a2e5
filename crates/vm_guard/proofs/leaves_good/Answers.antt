use Rattle.vm_guard.proofs.Cases.{leaving}
use Rattle.vm_guard.proofs.leaves_good.Goals as goal

pub loop-passed-init : goal.loop-passed-init
loop-passed-init c =
    search leaving

pub returns-then-m-top : goal.returns-then-m-top
returns-then-m-top c =
    search leaving

pub returns-then-is_first : goal.returns-then-is_first
returns-then-is_first c =
    search leaving

pub loop-passed-preserved : goal.loop-passed-preserved
loop-passed-preserved c =
    search leaving

pub returns-then-is_called : goal.returns-then-is_called
returns-then-is_called c =
    search leaving

pub returns-in-loop-passed : goal.returns-in-loop-passed
returns-in-loop-passed c =
    search leaving

pub returns : goal.returns
returns c =
    search leaving
