use Rattle.prog_scope.proofs.Cases.{function-ways}
use Rattle.prog_scope.proofs.function_held.Goals as goal

pub returns-then-p-le-PARAMETERS : goal.returns-then-p-le-PARAMETERS
returns-then-p-le-PARAMETERS c =
    search function-ways

pub returns : goal.returns
returns c =
    search function-ways
