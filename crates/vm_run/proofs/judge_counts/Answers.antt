use Rattle.vm_run.proofs.Cases.{counts-ways}
use Rattle.vm_run.proofs.judge_counts.Goals as goal

pub returns-then-statements_past : goal.returns-then-statements_past
returns-then-statements_past c =
    search counts-ways

pub returns-in-No : goal.returns-in-No
returns-in-No c =
    search counts-ways

pub returns-in-At : goal.returns-in-At
returns-in-At c =
    search counts-ways

pub returns-in-Somewhere : goal.returns-in-Somewhere
returns-in-Somewhere c =
    search counts-ways
