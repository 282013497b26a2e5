use Rattle.vm_quick_statements.proofs.Cases.{assigns}
use Rattle.vm_quick_statements.proofs.assign.Goals as goal

pub returns-then-a-lt-FRAME_HEAD : goal.returns-then-a-lt-FRAME_HEAD
returns-then-a-lt-FRAME_HEAD c =
    search assigns

pub returns-then-size-a : goal.returns-then-size-a
returns-then-size-a c =
    search assigns

pub returns-in-Ok : goal.returns-in-Ok
returns-in-Ok c =
    search assigns

pub returns-in-Err : goal.returns-in-Err
returns-in-Err c =
    search assigns
