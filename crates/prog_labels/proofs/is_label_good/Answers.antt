use Rattle.prog_labels.proofs.Cases.{label-ways}
use Rattle.prog_labels.proofs.is_label_good.Goals as goal

pub returns-then-not-names_good : goal.returns-then-not-names_good
returns-then-not-names_good c =
    search label-ways

pub returns-then-is_name_good : goal.returns-then-is_name_good
returns-then-is_name_good c =
    search label-ways

pub returns-else-is_name_good : goal.returns-else-is_name_good
returns-else-is_name_good c =
    rw c.if-is_name_good.false (search label-ways)
