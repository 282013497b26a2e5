use Rattle.prog_faults.proofs.slot_fault.Goals as goal

pub returns : goal.returns
returns c =
    cc
