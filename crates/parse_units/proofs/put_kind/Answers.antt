use Rattle.parse_units.specs.Parse.{put_kind}
use Rattle.parse_units.proofs.put_kind.Goals as goal

pub returns : goal.returns
unfolding put_kind
returns c =
    cc
