use Rattle.prog_tables.specs.Statement.{operand_at}
use Rattle.prog_tables.proofs.operand_at.Goals as goal

pub returns : goal.returns
unfolding operand_at
returns c =
    cc
