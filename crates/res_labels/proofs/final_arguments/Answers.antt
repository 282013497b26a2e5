use Rattle.res_labels.proofs.Cases.{arguing}
use Rattle.res_labels.proofs.final_arguments.Goals as goal

pub returns-then-kind-eq-IMPORT : goal.returns-then-kind-eq-IMPORT
returns-then-kind-eq-IMPORT c =
    search arguing

pub returns-else-kind-eq-IMPORT : goal.returns-else-kind-eq-IMPORT
returns-else-kind-eq-IMPORT c =
    search arguing
