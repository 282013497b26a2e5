use Rattle.prog_faults.proofs.operands_at.Goals as goal

pub returns : goal.returns
returns c =
    cc
