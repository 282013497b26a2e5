use Rattle.base_prelude.proofs.Choice.{tests}
use Rattle.parse_units.proofs.Labelled.{statement-by}
use Rattle.parse_units.proofs.statement_word.Goals as goal

pub returns-then-w-lt-FUNCTION : goal.returns-then-w-lt-FUNCTION
returns-then-w-lt-FUNCTION c =
    search (statement-by, tests)

pub returns-then-w-eq-IF : goal.returns-then-w-eq-IF
returns-then-w-eq-IF c =
    search (statement-by, tests)

pub returns-then-w-lt-ADD : goal.returns-then-w-lt-ADD
returns-then-w-lt-ADD c =
    search (statement-by, tests)

pub returns : goal.returns
returns c =
    search (statement-by, tests)
