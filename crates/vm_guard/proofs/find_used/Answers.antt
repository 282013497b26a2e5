use Rattle.vm_guard.proofs.Cases.{used-ways}
use Rattle.vm_guard.proofs.find_used.Goals as goal

pub returns-then-c-next : goal.returns-then-c-next
returns-then-c-next c =
    search used-ways

pub returns : goal.returns
returns c =
    search used-ways
