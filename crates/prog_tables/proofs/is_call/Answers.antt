use Rattle.prog_tables.proofs.Cases.{used}
use Rattle.base_prelude.proofs.Choice.{tests}
use Rattle.prog_tables.specs.Statement.{is_call}
use Rattle.prog_tables.proofs.is_call.Goals as goal

pub returns-then-e-eq-IMPORT : goal.returns-then-e-eq-IMPORT
unfolding is_call
returns-then-e-eq-IMPORT c =
    search (tests, used)

pub returns-then-k-eq-CALL : goal.returns-then-k-eq-CALL
unfolding is_call
returns-then-k-eq-CALL c =
    search (tests, used)

pub returns-then-k-eq-TAIL_CALL : goal.returns-then-k-eq-TAIL_CALL
unfolding is_call
returns-then-k-eq-TAIL_CALL c =
    search (tests, used)

pub returns-then-has_expression : goal.returns-then-has_expression
unfolding is_call
returns-then-has_expression c =
    search (tests, used)

pub returns : goal.returns
unfolding is_call
returns c =
    search (tests, used)
