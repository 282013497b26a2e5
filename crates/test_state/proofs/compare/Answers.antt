use Rattle.test_state.specs.Views.{blank}
use Rattle.test_state.proofs.Cases.{compare-ways}
use Rattle.test_state.proofs.compare.Goals as goal

pub returns-then-n-ge-SOURCE : goal.returns-then-n-ge-SOURCE
unfolding blank
returns-then-n-ge-SOURCE c =
    search compare-ways

pub returns : goal.returns
unfolding blank
returns c =
    search compare-ways
