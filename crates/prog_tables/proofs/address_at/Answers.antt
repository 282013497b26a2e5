use Rattle.prog_tables.specs.Statement.{operand_at, row_from, row_at}
use Rattle.prog_tables.proofs.address_at.Goals as goal

pub returns : goal.returns
unfolding operand_at row_from row_at
returns c =
    cc
