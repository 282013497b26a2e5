use Rattle.res_exports.proofs.Cases.{faulting}
use Rattle.res_exports.proofs.missing_fault.Goals as goal

pub returns-then-find_label-l : goal.returns-then-find_label-l
returns-then-find_label-l c =
    search faulting

pub returns : goal.returns
returns c =
    search faulting
