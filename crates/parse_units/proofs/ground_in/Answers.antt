use Rattle.parse_units.proofs.Cases.{grounds}
use Rattle.parse_units.proofs.ground_in.Goals as goal

pub returns-then-s-eq0 : goal.returns-then-s-eq0
returns-then-s-eq0 c =
    search grounds

pub returns : goal.returns
returns c =
    search grounds
