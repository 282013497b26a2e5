use Rattle.prog_scope.proofs.Cases.{scope-ways}
use Rattle.prog_scope.proofs.is_in_scope.Goals as goal

pub returns-then-is_parameter : goal.returns-then-is_parameter
returns-then-is_parameter c =
    rw c.if-is_parameter.true (search scope-ways)

pub returns-else-is_parameter : goal.returns-else-is_parameter
returns-else-is_parameter c =
    search scope-ways
