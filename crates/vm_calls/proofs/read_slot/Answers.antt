use Rattle.vm_calls.proofs.read_slot.Goals as goal

pub returns : goal.returns
returns c =
    cc
