use Rattle.vm_start.proofs.Cases.{finding}
use Rattle.vm_start.proofs.find_export.Goals as goal

pub loop-i-init : goal.loop-i-init
loop-i-init c =
    search finding

pub returns-then-is_exported : goal.returns-then-is_exported
returns-then-is_exported c =
    search finding

pub loop-i-preserved : goal.loop-i-preserved
loop-i-preserved c =
    search finding

pub returns : goal.returns
returns c =
    search finding
