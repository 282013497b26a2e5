use Rattle.prog_labels.proofs.Cases.{row-ways}
use Rattle.prog_labels.proofs.names_row.Goals as goal

pub returns-then-is_function_label : goal.returns-then-is_function_label
returns-then-is_function_label c =
    search row-ways

pub returns : goal.returns
returns c =
    search row-ways
