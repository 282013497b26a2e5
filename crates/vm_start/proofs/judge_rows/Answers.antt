use Rattle.vm_start.proofs.Cases.{row-ways}
use Rattle.vm_start.proofs.judge_rows.Goals as goal

pub returns-then-rest_fault : goal.returns-then-rest_fault
returns-then-rest_fault c =
    search row-ways

pub returns-else-rest_fault : goal.returns-else-rest_fault
returns-else-rest_fault c =
    search row-ways

pub returns-in-At : goal.returns-in-At
returns-in-At c =
    search row-ways

pub returns-in-Somewhere : goal.returns-in-Somewhere
returns-in-Somewhere c =
    search row-ways
