use Rattle.prog_tables.specs.Statement.{operand_number}
use Rattle.res_rows.proofs.operand_number.Goals as goal

pub returns-in-Constant : goal.returns-in-Constant
unfolding operand_number
returns-in-Constant c =
    cc

pub returns-in-Local : goal.returns-in-Local
unfolding operand_number
returns-in-Local c =
    cc

pub returns-in-Address : goal.returns-in-Address
unfolding operand_number
returns-in-Address c =
    cc

pub returns-in-AtConstant : goal.returns-in-AtConstant
unfolding operand_number
returns-in-AtConstant c =
    cc

pub returns-in-AtLocal : goal.returns-in-AtLocal
unfolding operand_number
returns-in-AtLocal c =
    cc

pub returns-in-AtAddress : goal.returns-in-AtAddress
unfolding operand_number
returns-in-AtAddress c =
    cc

pub returns-in-Unlisted : goal.returns-in-Unlisted
unfolding operand_number
returns-in-Unlisted c =
    cc
