use Rattle.base_prelude.proofs.Choice.{tests}
use Rattle.res_labels.specs.Labelling.{final_kind}
use Rattle.res_labels.proofs.final_kind.Goals as goal

pub returns-then-flag-eq1 : goal.returns-then-flag-eq1
unfolding final_kind
returns-then-flag-eq1 c =
    search tests

pub returns-else-flag-eq1 : goal.returns-else-flag-eq1
unfolding final_kind
returns-else-flag-eq1 c =
    search tests
