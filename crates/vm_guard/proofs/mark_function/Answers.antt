use Rattle.vm_guard.proofs.Cases.{function-ways}
use Rattle.vm_guard.proofs.mark_function.Goals as goal

pub returns-then-is_in_function : goal.returns-then-is_in_function
returns-then-is_in_function c =
    search function-ways

pub returns : goal.returns
returns c =
    search function-ways
