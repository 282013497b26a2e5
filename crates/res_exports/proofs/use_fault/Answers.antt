use Rattle.res_exports.proofs.Cases.{faulting}
use Rattle.res_exports.proofs.use_fault.Goals as goal

pub returns-then-q-eq0 : goal.returns-then-q-eq0
returns-then-q-eq0 c =
    search faulting

pub returns-then-q-i : goal.returns-then-q-i
returns-then-q-i c =
    search faulting

pub returns : goal.returns
returns c =
    search faulting
