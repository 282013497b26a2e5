use Rattle.test_state.proofs.Cases.{read-count-ways}
use Rattle.test_state.proofs.read_count.Goals as goal

pub returns-then-has_values : goal.returns-then-has_values
returns-then-has_values c =
    search read-count-ways

pub returns : goal.returns
returns c =
    search read-count-ways
