use Rattle.vm_definitions.specs.Access.{byte_address}
use Rattle.base_word.specs.Word.{add_of}
use Rattle.vm_operands.proofs.byte_address.Goals as goal

pub returns : goal.returns
unfolding byte_address add_of
returns c =
    cc
