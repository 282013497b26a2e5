use Rattle.parse_units.proofs.Cases.{picks}
use Rattle.parse_units.proofs.up_of.Goals as goal

pub returns-then-is_closer : goal.returns-then-is_closer
returns-then-is_closer c =
    search picks

pub returns : goal.returns
returns c =
    search picks
