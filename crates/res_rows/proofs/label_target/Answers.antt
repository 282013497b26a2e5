use Rattle.res_rows.specs.Rows.{label_target}
use Rattle.res_rows.proofs.label_target.Goals as goal

pub returns-in-Let : goal.returns-in-Let
unfolding label_target
returns-in-Let c =
    cc

pub returns-in-Parameter : goal.returns-in-Parameter
unfolding label_target
returns-in-Parameter c =
    cc

pub returns-in-Label : goal.returns-in-Label
unfolding label_target
returns-in-Label c =
    cc

pub returns-in-Unknown : goal.returns-in-Unknown
unfolding label_target
returns-in-Unknown c =
    cc
