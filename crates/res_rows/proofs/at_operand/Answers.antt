use Rattle.res_rows.specs.Rows.{at_operand}
use Rattle.res_rows.proofs.at_operand.Goals as goal

pub returns-in-Let : goal.returns-in-Let
unfolding at_operand
returns-in-Let c =
    cc

pub returns-in-Parameter : goal.returns-in-Parameter
unfolding at_operand
returns-in-Parameter c =
    cc

pub returns-in-Label : goal.returns-in-Label
unfolding at_operand
returns-in-Label c =
    cc

pub returns-in-Unknown : goal.returns-in-Unknown
unfolding at_operand
returns-in-Unknown c =
    cc
