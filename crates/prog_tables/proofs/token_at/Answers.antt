use Rattle.prog_tables.proofs.token_at.Goals as goal

pub returns : goal.returns
returns c =
    cc
