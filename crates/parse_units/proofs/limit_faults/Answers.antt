use Rattle.parse_units.proofs.Cases.{limit-least}
use Rattle.parse_units.proofs.limit_faults.Goals as goal

pub returns : goal.returns
returns c =
    search limit-least
