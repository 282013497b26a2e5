use Rattle.test_state.proofs.Cases.{lend-part-ways}
use Rattle.test_state.proofs.lend_part.Goals as goal

pub returns-then-most-n : goal.returns-then-most-n
returns-then-most-n c =
    search lend-part-ways

pub returns : goal.returns
returns c =
    search lend-part-ways
