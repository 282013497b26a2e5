use Rattle.vm_quick_statements.proofs.Cases.{jumping}
use Rattle.vm_quick_statements.proofs.jump.Goals as goal

pub returns-then-is_aimed : goal.returns-then-is_aimed
returns-then-is_aimed c =
    search jumping

pub returns : goal.returns
returns c =
    search jumping
