use Rattle.test_state.proofs.Cases.{view-words-ways}
use Rattle.test_state.proofs.view_words.Goals as goal

pub returns-then-at-ge16385 : goal.returns-then-at-ge16385
returns-then-at-ge16385 c =
    search view-words-ways

pub returns : goal.returns
returns c =
    search view-words-ways
