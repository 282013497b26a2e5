use Rattle.vm_quick_operands.proofs.read_address.Goals as goal

pub returns : goal.returns
returns c =
    cc
