use Rattle.prog_faults.proofs.Forms.{threes}
use Rattle.prog_faults.proofs.expression_fault.Goals as goal

pub returns-then-kind_fault : goal.returns-then-kind_fault
returns-then-kind_fault c =
    search threes

pub returns : goal.returns
returns c =
    search threes
