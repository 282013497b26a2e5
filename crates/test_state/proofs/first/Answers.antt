use Rattle.test_state.proofs.Cases.{first-is}
use Rattle.test_state.proofs.first.Goals as goal

pub returns : goal.returns
returns c =
    search first-is
