use Rattle.base_prelude.proofs.Choice.{tests}
use Rattle.parse_units.proofs.Labelled.{data-by}
use Rattle.parse_units.proofs.data_word.Goals as goal

pub returns-then-w-lt-ALIGN : goal.returns-then-w-lt-ALIGN
returns-then-w-lt-ALIGN c =
    search (data-by, tests)

pub returns-then-w-lt-FUNCTION : goal.returns-then-w-lt-FUNCTION
returns-then-w-lt-FUNCTION c =
    search (data-by, tests)

pub returns : goal.returns
returns c =
    search (data-by, tests)
