use Rattle.parse_units.proofs.Cases.{limiting}
use Rattle.parse_units.proofs.room_rule.Goals as goal

pub returns-then-saturating_sub-rows_of : goal.returns-then-saturating_sub-rows_of
returns-then-saturating_sub-rows_of c =
    search limiting

pub returns : goal.returns
returns c =
    search limiting
