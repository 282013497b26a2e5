use Rattle.vm_operands.proofs.Cases.{read-ways}
use Rattle.vm_operands.proofs.read_operand.Goals as goal

pub returns-in-Constant : goal.returns-in-Constant
returns-in-Constant c =
    search read-ways

pub returns-in-Local : goal.returns-in-Local
returns-in-Local c =
    search read-ways

pub returns-in-Address : goal.returns-in-Address
returns-in-Address c =
    search read-ways

pub returns-in-AtConstant : goal.returns-in-AtConstant
returns-in-AtConstant c =
    search read-ways

pub returns-in-AtLocal : goal.returns-in-AtLocal
returns-in-AtLocal c =
    search read-ways

pub returns-in-AtAddress : goal.returns-in-AtAddress
returns-in-AtAddress c =
    search read-ways

pub returns-in-Unlisted : goal.returns-in-Unlisted
returns-in-Unlisted c =
    search read-ways
