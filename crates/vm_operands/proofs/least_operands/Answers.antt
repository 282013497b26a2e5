use Rattle.vm_operands.proofs.Cases.{least-operator}
use Rattle.vm_operands.proofs.least_operands.Goals as goal

pub returns-then-is_operator : goal.returns-then-is_operator
returns-then-is_operator c =
    search least-operator
