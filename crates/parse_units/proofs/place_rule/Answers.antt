use Rattle.parse_units.proofs.Cases.{placing}
use Rattle.parse_units.proofs.place_rule.Goals as goal

pub returns-then-contains : goal.returns-then-contains
returns-then-contains c =
    search placing

pub returns-else-contains : goal.returns-else-contains
returns-else-contains c =
    search placing
