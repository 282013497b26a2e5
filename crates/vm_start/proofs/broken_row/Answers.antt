use Rattle.vm_start.proofs.Cases.{scanning}
use Rattle.vm_start.proofs.broken_row.Goals as goal

pub loop-i-init : goal.loop-i-init
loop-i-init c =
    search scanning

pub returns-then-row_fault : goal.returns-then-row_fault
returns-then-row_fault c =
    search scanning

pub loop-i-preserved : goal.loop-i-preserved
loop-i-preserved c =
    search scanning

pub returns : goal.returns
returns c =
    search scanning
