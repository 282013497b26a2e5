use Rattle.vm_counts.proofs.Cases.{count-ways}
use Rattle.vm_counts.proofs.count_fault.Goals as goal

pub returns-then-statements_past : goal.returns-then-statements_past
returns-then-statements_past c =
    search count-ways

pub returns : goal.returns
returns c =
    search count-ways
