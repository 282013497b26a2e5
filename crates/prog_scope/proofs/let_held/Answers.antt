use Rattle.prog_scope.proofs.Cases.{let-ways}
use Rattle.prog_scope.proofs.let_held.Goals as goal

pub returns-then-a-w : goal.returns-then-a-w
returns-then-a-w c =
    search let-ways

pub returns : goal.returns
returns c =
    search let-ways
