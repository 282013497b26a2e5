use Rattle.test_state.proofs.Cases.{read-view-ways}
use Rattle.test_state.proofs.read_view.Goals as goal

pub returns-then-starts_with : goal.returns-then-starts_with
returns-then-starts_with c =
    search read-view-ways

pub returns-then-starts_with-2 : goal.returns-then-starts_with-2
returns-then-starts_with-2 c =
    search read-view-ways

pub returns-then-starts_with-3 : goal.returns-then-starts_with-3
returns-then-starts_with-3 c =
    search read-view-ways

pub returns : goal.returns
returns c =
    search read-view-ways
