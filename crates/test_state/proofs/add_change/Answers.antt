use Rattle.test_state.proofs.Cases.{add-change-ways}
use Rattle.test_state.proofs.add_change.Goals as goal

pub returns-then-i-n : goal.returns-then-i-n
returns-then-i-n c =
    search add-change-ways

pub returns-then-j-h : goal.returns-then-j-h
returns-then-j-h c =
    search add-change-ways

pub returns : goal.returns
returns c =
    search add-change-ways
