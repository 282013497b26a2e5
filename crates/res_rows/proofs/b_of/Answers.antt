use Rattle.res_rows.proofs.Cases.{counts}
use Rattle.res_rows.proofs.b_of.Goals as goal

pub returns-then-kind-eq-FUNCTION : goal.returns-then-kind-eq-FUNCTION
returns-then-kind-eq-FUNCTION c =
    search counts

pub returns-then-kind-eq-BLOCK : goal.returns-then-kind-eq-BLOCK
returns-then-kind-eq-BLOCK c =
    search counts

pub returns : goal.returns
returns c =
    search counts
