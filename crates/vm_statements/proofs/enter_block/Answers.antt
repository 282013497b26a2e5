use Rattle.vm_statements.proofs.Cases.{went, block_words}
use Rattle.vm_statements.proofs.enter_block.Goals as goal

pub returns : goal.returns
returns c =
    (search went, search block_words)
