use Rattle.parse_units.proofs.Cases.{step_is}
use Rattle.parse_units.proofs.step_on.Goals as goal

pub returns : goal.returns
returns c =
    search step_is
