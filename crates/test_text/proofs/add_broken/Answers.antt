use Rattle.test_text.proofs.Cases.{brokens}
use Rattle.test_text.proofs.add_broken.Goals as goal

pub returns-in-No : goal.returns-in-No
returns-in-No c =
    search brokens

pub returns-in-At : goal.returns-in-At
returns-in-At c =
    search brokens

pub returns-in-Somewhere : goal.returns-in-Somewhere
returns-in-Somewhere c =
    search brokens
