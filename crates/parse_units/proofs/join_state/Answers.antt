use Rattle.parse_units.specs.Parse.{join_state}
use Rattle.parse_units.proofs.join_state.Goals as goal

pub returns : goal.returns
unfolding join_state
returns c =
    cc
