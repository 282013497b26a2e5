use Rattle.vm_start.proofs.Cases.{function-ways}
use Rattle.vm_start.proofs.is_no_function.Goals as goal

pub returns-then-c-n : goal.returns-then-c-n
returns-then-c-n c =
    search function-ways

pub returns-else-c-n : goal.returns-else-c-n
returns-else-c-n c =
    search function-ways
