use Rattle.base_prelude.proofs.Choice.{tests}
use Rattle.parse_outline.specs.Labels.{label_number}
use Rattle.parse_outline.proofs.label_number.Goals as goal

pub returns-then-section-lt-DATA_SECTION : goal.returns-then-section-lt-DATA_SECTION
unfolding label_number
returns-then-section-lt-DATA_SECTION c =
    search tests

pub returns : goal.returns
unfolding label_number
returns c =
    search tests
