use Rattle.vm_quick_statements.proofs.Cases.{stored}
use Rattle.vm_quick_statements.proofs.store_at.Goals as goal

pub returns-in-Ok : goal.returns-in-Ok
returns-in-Ok c =
    search stored

pub returns-in-Err : goal.returns-in-Err
returns-in-Err c =
    search stored
