use Rattle.prog_faults.proofs.Forms.{twos}
use Rattle.prog_faults.proofs.test_fault.Goals as goal

pub returns-then-target_fault : goal.returns-then-target_fault
returns-then-target_fault c =
    search twos

pub returns : goal.returns
returns c =
    search twos
