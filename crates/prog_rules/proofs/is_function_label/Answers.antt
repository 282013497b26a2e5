use native.Mathlib.Omega.{arith}
use Rattle.prog_rules.proofs.Rows.{function-label, label-in}
use Rattle.prog_rules.proofs.is_function_label.Goals as goal

pub returns-in-3 : goal.returns-in-3
returns-in-3 c =
    label-in c.args.k (omega arith) (omega arith)

pub returns-in_default : goal.returns-in_default
returns-in_default c =
    search function-label

pub returns-in_default-2 : goal.returns-in_default-2
returns-in_default-2 c =
    search function-label
