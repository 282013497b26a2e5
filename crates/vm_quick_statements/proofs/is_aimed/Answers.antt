use Rattle.vm_quick_statements.proofs.Cases.{aiming}
use Rattle.vm_quick_statements.proofs.is_aimed.Goals as goal

pub returns-then-a-c : goal.returns-then-a-c
returns-then-a-c c =
    search aiming

pub returns : goal.returns
returns c =
    search aiming
