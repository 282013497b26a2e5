use Rattle.test_state.proofs.Cases.{read-source-ways}
use Rattle.test_state.proofs.read_source.Goals as goal

pub returns-then-q : goal.returns-then-q
returns-then-q c =
    search read-source-ways

pub returns-then-starts_with : goal.returns-then-starts_with
returns-then-starts_with c =
    search read-source-ways

pub returns : goal.returns
returns c =
    search read-source-ways
