use Rattle.prog_scope.proofs.Cases.{set-ways}
use Rattle.prog_scope.proofs.set_held.Goals as goal

pub returns-then-j-eq-SET : goal.returns-then-j-eq-SET
returns-then-j-eq-SET c =
    search set-ways

pub returns : goal.returns
returns c =
    search set-ways
