use Rattle.test_state.specs.Views.{blank}
use Rattle.test_calls.specs.Calls.{no_words}
use Rattle.test_calls.proofs.Cases.{read-start-ways}
use Rattle.test_calls.proofs.read_start.Goals as goal

pub returns-then-size-ge-SOURCE : goal.returns-then-size-ge-SOURCE
unfolding blank no_words
returns-then-size-ge-SOURCE c =
    search read-start-ways

pub returns-then-n-gt16 : goal.returns-then-n-gt16
unfolding blank no_words
returns-then-n-gt16 c =
    search read-start-ways

pub returns : goal.returns
unfolding blank no_words
returns c =
    search read-start-ways
