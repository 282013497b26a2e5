use Rattle.res_names.proofs.Folds.{parameters}
use Rattle.res_names.proofs.parameters_fault.Goals as goal

pub loop-q-init : goal.loop-q-init
loop-q-init c =
    search parameters

pub loop-q-preserved : goal.loop-q-preserved
loop-q-preserved c =
    search parameters

pub returns : goal.returns
returns c =
    search parameters
