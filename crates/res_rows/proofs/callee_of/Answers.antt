use Rattle.res_rows.proofs.Cases.{callees}
use Rattle.res_rows.proofs.callee_of.Goals as goal

pub returns-then-kind-eq-BLOCK : goal.returns-then-kind-eq-BLOCK
returns-then-kind-eq-BLOCK c =
    search callees

pub returns-then-i-eq0 : goal.returns-then-i-eq0
returns-then-i-eq0 c =
    search callees

pub returns : goal.returns
returns c =
    search callees
