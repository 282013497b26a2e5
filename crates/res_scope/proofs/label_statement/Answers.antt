use Rattle.res_scope.proofs.Cases.{statement-is}
use Rattle.res_scope.proofs.label_statement.Goals as goal

pub returns : goal.returns
returns c =
    search statement-is
