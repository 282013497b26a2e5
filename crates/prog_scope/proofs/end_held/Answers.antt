use Rattle.prog_scope.proofs.end_held.Goals as goal

pub returns : goal.returns
returns c =
    cc
