use Rattle.vm_statements.proofs.Cases.{went}
use Rattle.vm_statements.proofs.pass.Goals as goal

pub returns : goal.returns
returns c =
    search went
