use Rattle.base_prelude.proofs.Choice.{tests}
use Rattle.prog_tables.specs.Statement.{has_expression, is_operator}
use Rattle.prog_tables.specs.Nesting.{is_listed}
use Rattle.prog_tables.proofs.is_operator.Goals as goal

pub returns-then-e-lt-ADD : goal.returns-then-e-lt-ADD
unfolding has_expression is_operator is_listed
returns-then-e-lt-ADD c =
    search tests

pub returns : goal.returns
unfolding has_expression is_operator is_listed
returns c =
    search tests
