use Rattle.res_names.proofs.Cases.{names}
use Rattle.res_names.proofs.callee_part.Goals as goal

pub returns-then-i-eq0 : goal.returns-then-i-eq0
returns-then-i-eq0 c =
    search names

pub returns : goal.returns
returns c =
    search names
