use Rattle.test_state.proofs.Cases.{close-body-ways}
use Rattle.test_state.proofs.close_body.Goals as goal

pub returns-then-q : goal.returns-then-q
returns-then-q c =
    search close-body-ways

pub returns : goal.returns
returns c =
    search close-body-ways
