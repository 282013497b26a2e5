use Rattle.res_names.proofs.Cases.{values}
use Rattle.res_names.proofs.data_fault.Goals as goal

pub returns-then-label_kind-eq-DATA : goal.returns-then-label_kind-eq-DATA
returns-then-label_kind-eq-DATA c =
    search values

pub returns : goal.returns
returns c =
    search values
