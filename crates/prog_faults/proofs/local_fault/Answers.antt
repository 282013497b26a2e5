use Rattle.prog_faults.proofs.Forms.{fours}
use Rattle.prog_faults.proofs.local_fault.Goals as goal

pub returns-then-kind_fault : goal.returns-then-kind_fault
returns-then-kind_fault c =
    search fours

pub returns-then-callee_fault : goal.returns-then-callee_fault
returns-then-callee_fault c =
    search fours

pub returns-then-word_fault : goal.returns-then-word_fault
returns-then-word_fault c =
    search fours

pub returns : goal.returns
returns c =
    search fours
