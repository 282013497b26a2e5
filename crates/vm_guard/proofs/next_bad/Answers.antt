use Rattle.vm_guard.proofs.Cases.{next-ways}
use Rattle.vm_guard.proofs.next_bad.Goals as goal

pub returns-then-k-eq-FUNCTION : goal.returns-then-k-eq-FUNCTION
returns-then-k-eq-FUNCTION c =
    search next-ways

pub returns-then-is_in_function : goal.returns-then-is_in_function
returns-then-is_in_function c =
    search next-ways

pub returns : goal.returns
returns c =
    search next-ways
