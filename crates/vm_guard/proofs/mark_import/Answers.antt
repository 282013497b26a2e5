use Rattle.vm_guard.proofs.Cases.{asks-ways}
use Rattle.vm_guard.proofs.mark_import.Goals as goal

pub returns-then-c-next : goal.returns-then-c-next
returns-then-c-next c =
    search asks-ways

pub returns-then-is_importing : goal.returns-then-is_importing
returns-then-is_importing c =
    search asks-ways

pub returns : goal.returns
returns c =
    search asks-ways
