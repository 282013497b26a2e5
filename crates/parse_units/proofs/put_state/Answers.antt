use Rattle.parse_units.specs.Parse.{put_state}
use Rattle.parse_units.proofs.put_state.Goals as goal

pub returns : goal.returns
unfolding put_state
returns c =
    cc
