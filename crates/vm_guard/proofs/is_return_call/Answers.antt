use Rattle.vm_guard.proofs.Cases.{through-ways}
use Rattle.vm_guard.proofs.is_return_call.Goals as goal

pub returns-then-k-eq-RETURN : goal.returns-then-k-eq-RETURN
returns-then-k-eq-RETURN c =
    search through-ways

pub returns : goal.returns
returns c =
    search through-ways
