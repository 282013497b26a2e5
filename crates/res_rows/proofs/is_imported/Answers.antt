use Rattle.res_rows.specs.Rows.{is_imported}
use Rattle.res_rows.proofs.is_imported.Goals as goal

pub returns-in-Let : goal.returns-in-Let
unfolding is_imported
returns-in-Let c =
    cc

pub returns-in-Parameter : goal.returns-in-Parameter
unfolding is_imported
returns-in-Parameter c =
    cc

pub returns-in-Label : goal.returns-in-Label
unfolding is_imported
returns-in-Label c =
    cc

pub returns-in-Unknown : goal.returns-in-Unknown
unfolding is_imported
returns-in-Unknown c =
    cc
