use Rattle.res_names.proofs.Folds.{labels}
use Rattle.res_names.proofs.labels_fault.Goals as goal

pub loop-j-init : goal.loop-j-init
loop-j-init c =
    search labels

pub loop-j-preserved : goal.loop-j-preserved
loop-j-preserved c =
    search labels

pub returns : goal.returns
returns c =
    search labels
