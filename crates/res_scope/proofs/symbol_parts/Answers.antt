use Rattle.res_scope.proofs.Cases.{parting}
use Rattle.res_scope.proofs.symbol_parts.Goals as goal

pub returns-then-w-eq-CALL : goal.returns-then-w-eq-CALL
returns-then-w-eq-CALL c =
    search parting

pub returns-then-is_operator : goal.returns-then-is_operator
returns-then-is_operator c =
    search parting

pub returns : goal.returns
returns c =
    search parting
