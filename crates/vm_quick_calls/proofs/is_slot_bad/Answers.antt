use Rattle.vm_quick_calls.proofs.is_slot_bad.Goals as goal

pub returns : goal.returns
returns c =
    cc
