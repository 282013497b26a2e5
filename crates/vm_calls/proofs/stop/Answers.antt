use Rattle.vm_calls.proofs.stop.Goals as goal

pub returns : goal.returns
returns c =
    cc
