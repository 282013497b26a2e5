use Rattle.vm_start.proofs.Cases.{rest-ways}
use Rattle.vm_start.proofs.rest_fault.Goals as goal

pub returns-then-labels_past : goal.returns-then-labels_past
returns-then-labels_past c =
    search rest-ways

pub returns-then-n-d : goal.returns-then-n-d
returns-then-n-d c =
    search rest-ways

pub returns : goal.returns
returns c =
    search rest-ways
