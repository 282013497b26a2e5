use Rattle.vm_guard.proofs.is_importing.Goals as goal

pub returns : goal.returns
returns c =
    cc
