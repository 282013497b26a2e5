use Rattle.vm_pauses.proofs.hold.Goals as goal

pub returns : goal.returns
returns c =
    cc
