use Rattle.vm_start.proofs.Cases.{label-ways}
use Rattle.vm_start.proofs.label_fault.Goals as goal

pub returns-then-size-gt64 : goal.returns-then-size-gt64
returns-then-size-gt64 c =
    search label-ways

pub returns : goal.returns
returns c =
    search label-ways
