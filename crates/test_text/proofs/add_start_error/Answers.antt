use Rattle.test_text.proofs.Cases.{start-errors}
use Rattle.test_text.proofs.add_start_error.Goals as goal

pub returns-in-Refused : goal.returns-in-Refused
returns-in-Refused c =
    search start-errors

pub returns-in-Unsound : goal.returns-in-Unsound
returns-in-Unsound c =
    search start-errors
