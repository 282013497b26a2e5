use Rattle.res_exports.proofs.Cases.{import-uses}
use Rattle.res_exports.proofs.import_use.Goals as goal

pub returns-then-j-l : goal.returns-then-j-l
returns-then-j-l c =
    search import-uses

pub returns : goal.returns
returns c =
    search import-uses
