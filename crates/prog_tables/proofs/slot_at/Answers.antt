use Rattle.prog_tables.proofs.slot_at.Goals as goal

pub returns : goal.returns
returns c =
    cc
