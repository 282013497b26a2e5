use Rattle.base_prelude.proofs.Choice.{tests}
use Rattle.res_data.specs.Sizes.{align_size}
use Rattle.res_data.proofs.Cases.{size-fills}
use Rattle.res_data.proofs.align_size.Goals as goal

pub returns-then-section-lt-DATA_SECTION : goal.returns-then-section-lt-DATA_SECTION
unfolding align_size
returns-then-section-lt-DATA_SECTION c =
    search tests

pub returns : goal.returns
returns c =
    search size-fills
