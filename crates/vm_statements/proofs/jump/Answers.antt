use Rattle.vm_statements.proofs.Cases.{went_to}
use Rattle.vm_statements.proofs.jump.Goals as goal

pub returns : goal.returns
returns c =
    search went_to
