use Rattle.test_text.proofs.Cases.{outcomes}
use Rattle.test_text.proofs.add_outcome.Goals as goal

pub returns-in-No : goal.returns-in-No
returns-in-No c =
    search outcomes

pub returns-in-At : goal.returns-in-At
returns-in-At c =
    search outcomes

pub returns-in-Somewhere : goal.returns-in-Somewhere
returns-in-Somewhere c =
    search outcomes
