use Rattle.test_state.proofs.Cases.{compare-texts-ways}
use Rattle.test_state.proofs.compare_texts.Goals as goal

pub returns-then-same : goal.returns-then-same
returns-then-same c =
    search compare-texts-ways

pub returns : goal.returns
returns c =
    search compare-texts-ways
