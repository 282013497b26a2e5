use Rattle.base_prelude.proofs.Choice.{tests}
use Rattle.prog_tables.specs.Statement.{has_expression, is_operator}
use Rattle.prog_tables.specs.Nesting.{is_listed}
use Rattle.prog_faults.proofs.is_listed.Goals as goal

pub returns-then-k-eq-EDGE : goal.returns-then-k-eq-EDGE
unfolding has_expression is_operator is_listed
returns-then-k-eq-EDGE c =
    search tests

pub returns : goal.returns
unfolding has_expression is_operator is_listed
returns c =
    search tests
