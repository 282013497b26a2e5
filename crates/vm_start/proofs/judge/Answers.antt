use Rattle.vm_start.proofs.Cases.{judge-ways}
use Rattle.vm_start.proofs.judge.Goals as goal

pub returns-then-statements_past : goal.returns-then-statements_past
returns-then-statements_past c =
    search judge-ways

pub returns : goal.returns
returns c =
    search judge-ways
