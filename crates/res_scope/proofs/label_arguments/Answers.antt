use Rattle.res_scope.proofs.Cases.{arguments-are}
use Rattle.res_scope.proofs.label_arguments.Goals as goal

pub returns : goal.returns
returns c =
    search arguments-are
