use Rattle.vm_quick_operands.proofs.read_third.Goals as goal

pub returns : goal.returns
returns c =
    cc
