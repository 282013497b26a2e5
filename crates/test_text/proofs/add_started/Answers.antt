use Rattle.test_text.proofs.Cases.{starteds}
use Rattle.test_text.proofs.add_started.Goals as goal

pub returns-in-Ok : goal.returns-in-Ok
returns-in-Ok c =
    search starteds

pub returns-in-Err : goal.returns-in-Err
returns-in-Err c =
    search starteds
