use Rattle.prog_scope.proofs.Cases.{helds}
use Rattle.prog_scope.proofs.is_held.Goals as goal

pub returns-then-a-v : goal.returns-then-a-v
returns-then-a-v c =
    search helds

pub returns : goal.returns
returns c =
    search helds
