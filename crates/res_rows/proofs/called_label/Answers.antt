use Rattle.res_rows.proofs.Cases.{calling}
use Rattle.res_rows.proofs.called_label.Goals as goal

pub returns-then-label_kind-eq-IMPORT : goal.returns-then-label_kind-eq-IMPORT
returns-then-label_kind-eq-IMPORT c =
    search calling

pub returns : goal.returns
returns c =
    search calling
