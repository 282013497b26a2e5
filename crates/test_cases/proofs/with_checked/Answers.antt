use Rattle.test_cases.proofs.Cases.{with-checked-ways}
use Rattle.test_cases.proofs.with_checked.Goals as goal

pub returns-in-Ok : goal.returns-in-Ok
returns-in-Ok c =
    search with-checked-ways

pub returns-in-Err : goal.returns-in-Err
returns-in-Err c =
    search with-checked-ways
