use Rattle.base_prelude.proofs.Choice.{tests}
use Rattle.prog_tables.specs.Statement.{has_expression, is_operator}
use Rattle.prog_tables.specs.Nesting.{is_listed}
use Rattle.prog_tables.proofs.has_expression.Goals as goal

pub returns-then-k-lt-LET : goal.returns-then-k-lt-LET
unfolding has_expression is_operator is_listed
returns-then-k-lt-LET c =
    search tests

pub returns-then-k-lt-SET_BYTE : goal.returns-then-k-lt-SET_BYTE
unfolding has_expression is_operator is_listed
returns-then-k-lt-SET_BYTE c =
    search tests

pub returns : goal.returns
unfolding has_expression is_operator is_listed
returns c =
    search tests
