use Rattle.prog_scope.proofs.slot_held.Goals as goal

pub returns : goal.returns
returns c =
    cc
