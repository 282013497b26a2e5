use Rattle.vm_calls.proofs.finish.Goals as goal

pub returns : goal.returns
returns c =
    cc
