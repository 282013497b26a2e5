use Rattle.vm_statements.proofs.Cases.{block-left}
use Rattle.vm_statements.proofs.leave_block.Goals as goal

pub returns : goal.returns
returns c =
    search block-left
