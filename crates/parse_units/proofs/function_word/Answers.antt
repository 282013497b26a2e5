use Rattle.base_prelude.proofs.Choice.{tests}
use Rattle.parse_units.proofs.Labelled.{function-by}
use Rattle.parse_units.proofs.function_word.Goals as goal

pub returns-then-w-eq-FUNCTION : goal.returns-then-w-eq-FUNCTION
returns-then-w-eq-FUNCTION c =
    search (function-by, tests)

pub returns : goal.returns
returns c =
    search (function-by, tests)
