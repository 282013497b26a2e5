use Rattle.test_state.proofs.Cases.{with-size-ways}
use Rattle.test_state.proofs.with_size.Goals as goal

pub returns-then-q : goal.returns-then-q
returns-then-q c =
    search with-size-ways

pub returns-then-size-ge-SOURCE : goal.returns-then-size-ge-SOURCE
returns-then-size-ge-SOURCE c =
    search with-size-ways

pub returns : goal.returns
returns c =
    search with-size-ways
