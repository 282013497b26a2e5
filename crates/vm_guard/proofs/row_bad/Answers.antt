use Rattle.vm_guard.proofs.Cases.{bad-ways}
use Rattle.vm_guard.proofs.row_bad.Goals as goal

pub returns-then-row_fault : goal.returns-then-row_fault
returns-then-row_fault c =
    search bad-ways

pub returns-then-i-next : goal.returns-then-i-next
returns-then-i-next c =
    search bad-ways

pub returns : goal.returns
returns c =
    search bad-ways
