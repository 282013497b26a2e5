use Rattle.test_cases.proofs.Cases.{check-once-ways}
use Rattle.test_cases.proofs.check_once.Goals as goal

pub returns-then-q : goal.returns-then-q
returns-then-q c =
    search check-once-ways

pub returns : goal.returns
returns c =
    search check-once-ways
