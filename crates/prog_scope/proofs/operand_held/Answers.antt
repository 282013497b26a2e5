use Rattle.prog_scope.proofs.Cases.{operand-ways}
use Rattle.prog_scope.proofs.operand_held.Goals as goal

pub returns-in-Constant : goal.returns-in-Constant
returns-in-Constant c =
    search operand-ways

pub returns-in-Local : goal.returns-in-Local
returns-in-Local c =
    search operand-ways

pub returns-in-Address : goal.returns-in-Address
returns-in-Address c =
    search operand-ways

pub returns-in-AtConstant : goal.returns-in-AtConstant
returns-in-AtConstant c =
    search operand-ways

pub returns-in-AtLocal : goal.returns-in-AtLocal
returns-in-AtLocal c =
    search operand-ways

pub returns-in-AtAddress : goal.returns-in-AtAddress
returns-in-AtAddress c =
    search operand-ways

pub returns-in-Unlisted : goal.returns-in-Unlisted
returns-in-Unlisted c =
    search operand-ways
