use Rattle.prog_tables.specs.Statement.{row_from, row_at}
use Rattle.prog_tables.proofs.scope_at.Goals as goal

pub returns : goal.returns
unfolding row_from row_at
returns c =
    cc
