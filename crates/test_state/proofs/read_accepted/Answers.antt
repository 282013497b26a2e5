use Rattle.test_state.proofs.Cases.{read-accepted-ways}
use Rattle.test_state.proofs.read_accepted.Goals as goal

pub returns-then-starts_with : goal.returns-then-starts_with
returns-then-starts_with c =
    search read-accepted-ways

pub returns : goal.returns
returns c =
    search read-accepted-ways
