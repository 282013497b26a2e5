use Rattle.prog_tables.proofs.next_at.Goals as goal

pub returns : goal.returns
returns c =
    cc
