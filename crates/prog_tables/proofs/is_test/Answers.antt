use Rattle.base_prelude.proofs.Choice.{tests}
use Rattle.prog_tables.specs.Statement.{is_test}
use Rattle.prog_tables.proofs.is_test.Goals as goal

pub returns-then-k-lt-IFEQ : goal.returns-then-k-lt-IFEQ
unfolding is_test
returns-then-k-lt-IFEQ c =
    search tests

pub returns : goal.returns
unfolding is_test
returns c =
    search tests
