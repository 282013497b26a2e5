use Rattle.res_skeleton.proofs.Cases.{parameters}
use Rattle.res_skeleton.proofs.parameters_of.Goals as goal

pub returns-then-kind-eq-FUNCTION : goal.returns-then-kind-eq-FUNCTION
returns-then-kind-eq-FUNCTION c =
    search parameters

pub returns : goal.returns
returns c =
    search parameters
