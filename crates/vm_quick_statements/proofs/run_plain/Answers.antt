use Rattle.vm_quick_statements.proofs.Cases.{going}
use Rattle.vm_quick_statements.proofs.run_plain.Goals as goal

pub loop-count-init : goal.loop-count-init
loop-count-init c =
    search going

pub returns-in_default : goal.returns-in_default
returns-in_default c =
    search going

pub loop-count-preserved : goal.loop-count-preserved
loop-count-preserved c =
    search going

pub returns : goal.returns
returns c =
    search going
