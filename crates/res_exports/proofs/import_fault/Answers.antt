use Rattle.res_exports.proofs.Cases.{importing}
use Rattle.res_exports.proofs.import_fault.Goals as goal

pub returns-then-host_at-eq0 : goal.returns-then-host_at-eq0
returns-then-host_at-eq0 c =
    search importing

pub returns : goal.returns
returns c =
    search importing
