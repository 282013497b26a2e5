use Rattle.res_scope.proofs.Cases.{named}
use Rattle.res_scope.proofs.has_name.Goals as goal

pub returns-then-kind-ge-LABEL : goal.returns-then-kind-ge-LABEL
returns-then-kind-ge-LABEL c =
    search named

pub returns-else-kind-ge-LABEL : goal.returns-else-kind-ge-LABEL
returns-else-kind-ge-LABEL c =
    search named
