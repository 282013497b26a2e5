use Rattle.vm_quick_statements.proofs.Cases.{steps}
use Rattle.vm_quick_statements.proofs.take.Goals as goal

pub returns-then-c-n : goal.returns-then-c-n
returns-then-c-n c =
    search steps

pub returns-then-own-g : goal.returns-then-own-g
returns-then-own-g c =
    search steps

pub returns : goal.returns
returns c =
    search steps
