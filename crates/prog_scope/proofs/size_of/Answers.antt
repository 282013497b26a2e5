use Rattle.prog_scope.proofs.Cases.{function-ways}
use Rattle.prog_scope.proofs.size_of.Goals as goal

pub returns : goal.returns
returns c =
    search function-ways
