use Rattle.test_state.proofs.Cases.{open-body-ways}
use Rattle.test_state.proofs.open_body.Goals as goal

pub returns-then-q : goal.returns-then-q
returns-then-q c =
    search open-body-ways

pub returns : goal.returns
returns c =
    search open-body-ways
