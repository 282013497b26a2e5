use Rattle.res_scope.proofs.Cases.{parting}
use Rattle.res_scope.proofs.return_parts.Goals as goal

pub returns-then-i-next : goal.returns-then-i-next
returns-then-i-next c =
    search parting

pub returns : goal.returns
returns c =
    search parting
