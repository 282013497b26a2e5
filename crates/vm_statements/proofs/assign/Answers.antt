use Rattle.vm_statements.proofs.Cases.{assigns}
use Rattle.vm_statements.proofs.assign.Goals as goal

pub returns-in-Ok : goal.returns-in-Ok
returns-in-Ok c =
    search assigns

pub returns-in-Err : goal.returns-in-Err
returns-in-Err c =
    search assigns
