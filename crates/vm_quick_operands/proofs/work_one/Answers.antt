use Rattle.vm_quick_operands.proofs.Cases.{ones}
use Rattle.vm_quick_operands.proofs.work_one.Goals as goal

pub returns-in_default : goal.returns-in_default
returns-in_default c =
    search ones

pub returns-then-e-eq-PLAIN : goal.returns-then-e-eq-PLAIN
returns-then-e-eq-PLAIN c =
    search ones

pub returns : goal.returns
returns c =
    search ones
