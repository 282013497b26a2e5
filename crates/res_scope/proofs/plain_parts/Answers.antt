use Rattle.res_scope.proofs.Cases.{parting}
use Rattle.res_scope.proofs.plain_parts.Goals as goal

pub returns-then-lists_operands : goal.returns-then-lists_operands
returns-then-lists_operands c =
    search parting

pub returns-then-kind-eq-CALL : goal.returns-then-kind-eq-CALL
returns-then-kind-eq-CALL c =
    search parting

pub returns-then-kind-eq-TAIL_CALL : goal.returns-then-kind-eq-TAIL_CALL
returns-then-kind-eq-TAIL_CALL c =
    search parting

pub returns : goal.returns
returns c =
    search parting
