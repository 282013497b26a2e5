use Rattle.vm_quick_operands.proofs.read_first.Goals as goal

pub returns : goal.returns
returns c =
    cc
