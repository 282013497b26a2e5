use borrow.Author.Rules.{rules}
use Rattle.prog_tables.specs.Label.{is_function_label}
use Rattle.base_prelude.proofs.Choice.{tests}
use Rattle.vm_start.proofs.is_function_label.Goals as goal

pub returns-then-k-eq-FUNCTION : goal.returns-then-k-eq-FUNCTION
unfolding is_function_label
returns-then-k-eq-FUNCTION c =
    search (rules, tests)

pub returns-else-k-eq-FUNCTION : goal.returns-else-k-eq-FUNCTION
unfolding is_function_label
returns-else-k-eq-FUNCTION c =
    search (rules, tests)
