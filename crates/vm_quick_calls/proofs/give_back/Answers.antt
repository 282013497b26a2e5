use Rattle.vm_quick_calls.proofs.Cases.{backs}
use Rattle.vm_quick_calls.proofs.give_back.Goals as goal

pub returns-in-Ok : goal.returns-in-Ok
returns-in-Ok c =
    search backs

pub returns-in-Err : goal.returns-in-Err
returns-in-Err c =
    search backs
