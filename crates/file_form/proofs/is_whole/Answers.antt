use Rattle.file_form.proofs.Cases.{whole-ways}
use Rattle.file_form.proofs.is_whole.Goals as goal

pub returns-then-b-at : goal.returns-then-b-at
returns-then-b-at c =
    search whole-ways

pub returns-then-left-lt-HEAD : goal.returns-then-left-lt-HEAD
returns-then-left-lt-HEAD c =
    search whole-ways

pub returns : goal.returns
returns c =
    search whole-ways
