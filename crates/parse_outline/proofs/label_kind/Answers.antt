use Rattle.base_prelude.proofs.Choice.{tests}
use Rattle.parse_outline.specs.Labels.{label_kind}
use Rattle.parse_outline.proofs.label_kind.Goals as goal

pub returns-then-k-eq-FUNCTION : goal.returns-then-k-eq-FUNCTION
unfolding label_kind
returns-then-k-eq-FUNCTION c =
    search tests

pub returns-then-section-lt-DATA_SECTION : goal.returns-then-section-lt-DATA_SECTION
unfolding label_kind
returns-then-section-lt-DATA_SECTION c =
    search tests

pub returns : goal.returns
unfolding label_kind
returns c =
    search tests
