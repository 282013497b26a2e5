use Rattle.res_rows.specs.Rows.{plain_operand}
use Rattle.res_rows.proofs.plain_operand.Goals as goal

pub returns-in-Let : goal.returns-in-Let
unfolding plain_operand
returns-in-Let c =
    cc

pub returns-in-Parameter : goal.returns-in-Parameter
unfolding plain_operand
returns-in-Parameter c =
    cc

pub returns-in-Label : goal.returns-in-Label
unfolding plain_operand
returns-in-Label c =
    cc

pub returns-in-Unknown : goal.returns-in-Unknown
unfolding plain_operand
returns-in-Unknown c =
    cc
