use Rattle.res_scope.proofs.Cases.{same_name}
use Rattle.res_scope.proofs.same_name.Goals as goal

pub returns-then-not-has_name : goal.returns-then-not-has_name
returns-then-not-has_name c =
    search same_name

pub returns-then-has_name : goal.returns-then-has_name
returns-then-has_name c =
    search same_name

pub returns-else-has_name : goal.returns-else-has_name
returns-else-has_name c =
    search same_name
