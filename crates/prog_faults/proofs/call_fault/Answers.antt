use Rattle.prog_faults.proofs.Forms.{twos}
use Rattle.prog_faults.proofs.call_fault.Goals as goal

pub returns-then-callee_fault : goal.returns-then-callee_fault
returns-then-callee_fault c =
    search twos

pub returns : goal.returns
returns c =
    search twos
