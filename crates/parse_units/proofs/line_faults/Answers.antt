use Rattle.parse_units.proofs.Cases.{line-least}
use Rattle.parse_units.proofs.line_faults.Goals as goal

pub returns : goal.returns
returns c =
    search line-least
