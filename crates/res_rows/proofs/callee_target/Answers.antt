use Rattle.res_rows.specs.Rows.{callee_target}
use Rattle.res_rows.proofs.callee_target.Goals as goal

pub returns-in-Let : goal.returns-in-Let
unfolding callee_target
returns-in-Let c =
    cc

pub returns-in-Parameter : goal.returns-in-Parameter
unfolding callee_target
returns-in-Parameter c =
    cc

pub returns-in-Label : goal.returns-in-Label
unfolding callee_target
returns-in-Label c =
    cc

pub returns-in-Unknown : goal.returns-in-Unknown
unfolding callee_target
returns-in-Unknown c =
    cc
