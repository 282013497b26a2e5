use Rattle.vm_definitions.specs.Operators.{answered}
use Rattle.vm_operands.proofs.Cases.{answered-stop}
use Rattle.vm_operands.proofs.from_answer.Goals as goal

pub returns-in-Ok : goal.returns-in-Ok
unfolding answered
returns-in-Ok c =
    cc

pub returns-in-Err : goal.returns-in-Err
returns-in-Err c =
    search answered-stop
