use Rattle.vm_quick_statements.proofs.Cases.{assign-call}
use Rattle.vm_quick_statements.proofs.set_local.Goals as goal

pub returns-then-e-eq-CALL : goal.returns-then-e-eq-CALL
returns-then-e-eq-CALL c =
    search assign-call
