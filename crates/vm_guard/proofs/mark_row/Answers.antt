use Rattle.vm_guard.proofs.Cases.{mark-ways}
use Rattle.vm_guard.proofs.mark_row.Goals as goal

pub returns-then-row_bad : goal.returns-then-row_bad
returns-then-row_bad c =
    search mark-ways

pub returns : goal.returns
returns c =
    search mark-ways
