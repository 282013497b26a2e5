use Rattle.vm_quick_operands.proofs.Cases.{sizing}
use Rattle.vm_quick_operands.proofs.size_of.Goals as goal

pub returns-then-c-g : goal.returns-then-c-g
returns-then-c-g c =
    search sizing

pub returns-then-size-p : goal.returns-then-size-p
returns-then-size-p c =
    search sizing

pub returns-then-k-eq-FUNCTION : goal.returns-then-k-eq-FUNCTION
returns-then-k-eq-FUNCTION c =
    search sizing

pub returns : goal.returns
returns c =
    search sizing
