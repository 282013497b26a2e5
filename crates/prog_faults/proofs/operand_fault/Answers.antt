use Rattle.prog_tables.specs.Faults.{operand_fault}
use Rattle.prog_faults.proofs.operand_fault.Goals as goal

pub returns-in-Constant : goal.returns-in-Constant
unfolding operand_fault
returns-in-Constant c =
    cc

pub returns-in-Local : goal.returns-in-Local
unfolding operand_fault
returns-in-Local c =
    cc

pub returns-in-Address : goal.returns-in-Address
unfolding operand_fault
returns-in-Address c =
    cc

pub returns-in-AtConstant : goal.returns-in-AtConstant
unfolding operand_fault
returns-in-AtConstant c =
    cc

pub returns-in-AtLocal : goal.returns-in-AtLocal
unfolding operand_fault
returns-in-AtLocal c =
    cc

pub returns-in-AtAddress : goal.returns-in-AtAddress
unfolding operand_fault
returns-in-AtAddress c =
    cc

pub returns-in-Unlisted : goal.returns-in-Unlisted
unfolding operand_fault
returns-in-Unlisted c =
    cc
