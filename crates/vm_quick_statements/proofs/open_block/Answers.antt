use Rattle.vm_quick_statements.proofs.Cases.{open-words}
use Rattle.vm_quick_statements.proofs.open_block.Goals as goal

pub returns : goal.returns
returns c =
    search open-words
