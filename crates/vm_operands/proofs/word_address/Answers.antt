use Rattle.vm_operands.proofs.Cases.{word_address_lem}
use Rattle.vm_operands.proofs.word_address.Goals as goal

pub returns : goal.returns
returns c =
    search word_address_lem
