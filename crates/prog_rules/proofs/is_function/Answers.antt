use Rattle.prog_rules.proofs.Rows.{bearing}
use Rattle.prog_rules.proofs.is_function.Goals as goal

pub returns-then-is_function_label : goal.returns-then-is_function_label
returns-then-is_function_label c =
    search bearing

pub returns-else-is_function_label : goal.returns-else-is_function_label
returns-else-is_function_label c =
    rw c.if-is_function_label.false (search bearing)
