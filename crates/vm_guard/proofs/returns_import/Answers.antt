use Rattle.vm_guard.proofs.Cases.{import-ways}
use Rattle.vm_guard.proofs.returns_import.Goals as goal

pub returns-then-k-eq-TAIL_CALL : goal.returns-then-k-eq-TAIL_CALL
returns-then-k-eq-TAIL_CALL c =
    search import-ways

pub returns-then-is_importing : goal.returns-then-is_importing
returns-then-is_importing c =
    search import-ways

pub returns : goal.returns
returns c =
    search import-ways
