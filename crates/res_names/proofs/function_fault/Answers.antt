use Rattle.res_names.proofs.Cases.{callees}
use Rattle.res_names.proofs.function_fault.Goals as goal

pub returns-then-parameters_at-count : goal.returns-then-parameters_at-count
returns-then-parameters_at-count c =
    search callees

pub returns-then-label_kind-eq-FUNCTION : goal.returns-then-label_kind-eq-FUNCTION
returns-then-label_kind-eq-FUNCTION c =
    search callees

pub returns : goal.returns
returns c =
    search callees
