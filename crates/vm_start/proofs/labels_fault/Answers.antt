use Rattle.vm_start.proofs.Cases.{trying}
use Rattle.vm_start.proofs.labels_fault.Goals as goal

pub loop-i-init : goal.loop-i-init
loop-i-init c =
    search trying

pub returns-then-label_fault : goal.returns-then-label_fault
returns-then-label_fault c =
    search trying

pub loop-i-preserved : goal.loop-i-preserved
loop-i-preserved c =
    search trying

pub returns : goal.returns
returns c =
    search trying
