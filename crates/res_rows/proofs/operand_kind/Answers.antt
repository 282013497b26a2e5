use Rattle.prog_tables.specs.Statement.{operand_kind}
use Rattle.res_rows.proofs.operand_kind.Goals as goal

pub returns-in-Constant : goal.returns-in-Constant
unfolding operand_kind
returns-in-Constant c =
    cc

pub returns-in-Local : goal.returns-in-Local
unfolding operand_kind
returns-in-Local c =
    cc

pub returns-in-Address : goal.returns-in-Address
unfolding operand_kind
returns-in-Address c =
    cc

pub returns-in-AtConstant : goal.returns-in-AtConstant
unfolding operand_kind
returns-in-AtConstant c =
    cc

pub returns-in-AtLocal : goal.returns-in-AtLocal
unfolding operand_kind
returns-in-AtLocal c =
    cc

pub returns-in-AtAddress : goal.returns-in-AtAddress
unfolding operand_kind
returns-in-AtAddress c =
    cc

pub returns-in-Unlisted : goal.returns-in-Unlisted
unfolding operand_kind
returns-in-Unlisted c =
    cc
