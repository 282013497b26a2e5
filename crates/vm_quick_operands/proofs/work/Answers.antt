use Rattle.vm_quick_operands.proofs.Cases.{working}
use Rattle.vm_quick_operands.proofs.work.Goals as goal

pub returns-then-k-eq1 : goal.returns-then-k-eq1
returns-then-k-eq1 c =
    search working

pub returns-then-k-eq2 : goal.returns-then-k-eq2
returns-then-k-eq2 c =
    search working

pub returns : goal.returns
returns c =
    search working
