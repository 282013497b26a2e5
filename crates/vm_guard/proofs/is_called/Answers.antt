use Rattle.vm_guard.proofs.Cases.{called-ways}
use Rattle.vm_guard.proofs.is_called.Goals as goal

pub returns-then-is_calling : goal.returns-then-is_calling
returns-then-is_calling c =
    search called-ways

pub returns-then-is_in_function : goal.returns-then-is_in_function
returns-then-is_in_function c =
    search called-ways

pub returns-then-p-c : goal.returns-then-p-c
returns-then-p-c c =
    search called-ways

pub returns : goal.returns
returns c =
    search called-ways
