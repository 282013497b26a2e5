use Rattle.prog_faults.proofs.Forms.{fours}
use Rattle.prog_faults.proofs.set_at_fault.Goals as goal

pub returns-then-kind_fault : goal.returns-then-kind_fault
returns-then-kind_fault c =
    search fours

pub returns-then-callee_fault : goal.returns-then-callee_fault
returns-then-callee_fault c =
    search fours

pub returns-then-operands_fault : goal.returns-then-operands_fault
returns-then-operands_fault c =
    search fours

pub returns : goal.returns
returns c =
    search fours
