use Rattle.res_scope.proofs.Cases.{parting}
use Rattle.res_scope.proofs.expression_parts.Goals as goal

pub returns-then-is_name : goal.returns-then-is_name
returns-then-is_name c =
    search parting

pub returns : goal.returns
returns c =
    search parting
