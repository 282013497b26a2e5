use Rattle.res_names.proofs.Cases.{seconds}
use Rattle.res_names.proofs.is_local_taken.Goals as goal

pub returns-then-m-r : goal.returns-then-m-r
returns-then-m-r c =
    search seconds

pub returns-then-kind_at-eq-FUNCTION : goal.returns-then-kind_at-eq-FUNCTION
returns-then-kind_at-eq-FUNCTION c =
    search seconds

pub returns : goal.returns
returns c =
    search seconds
