use Rattle.res_exports.proofs.Cases.{faulting}
use Rattle.res_exports.proofs.export_fault.Goals as goal

pub returns-then-j-l : goal.returns-then-j-l
returns-then-j-l c =
    search faulting

pub returns : goal.returns
returns c =
    search faulting
