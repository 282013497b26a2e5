use Rattle.test_cases.proofs.Cases.{read-behind-ways}
use Rattle.test_cases.proofs.read_behind.Goals as goal

pub returns-in-Some : goal.returns-in-Some
returns-in-Some c =
    search read-behind-ways

pub returns-in-None : goal.returns-in-None
returns-in-None c =
    search read-behind-ways
