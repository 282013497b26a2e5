use Rattle.base_prelude.proofs.Choice.{tests}
use Rattle.prog_tables.specs.Faults.{expression_listed}
use Rattle.prog_faults.proofs.Cases.{has}
use Rattle.prog_faults.proofs.is_expression.Goals as goal

pub returns-then-e-eq-NONE : goal.returns-then-e-eq-NONE
unfolding expression_listed
returns-then-e-eq-NONE c =
    search (has, tests)

pub returns-then-e-eq-PLAIN : goal.returns-then-e-eq-PLAIN
unfolding expression_listed
returns-then-e-eq-PLAIN c =
    search (has, tests)

pub returns-then-is_call_expression : goal.returns-then-is_call_expression
unfolding expression_listed
returns-then-is_call_expression c =
    search (has, tests)

pub returns : goal.returns
unfolding expression_listed
returns c =
    search (has, tests)
