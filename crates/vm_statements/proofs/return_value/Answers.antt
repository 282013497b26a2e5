use Rattle.vm_statements.proofs.Cases as cases
use Rattle.vm_statements.proofs.Forms.{expressed-leaves}
use Rattle.vm_statements.proofs.return_value.Goals as goal

pub hand_back-requires : goal.hand_back-requires
hand_back-requires c =
    search expressed-leaves

pub returns-in-Ok : goal.returns-in-Ok
returns-in-Ok c =
    search cases.returns

pub returns-in-Err : goal.returns-in-Err
returns-in-Err c =
    search cases.returns
