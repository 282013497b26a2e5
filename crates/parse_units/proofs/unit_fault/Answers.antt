use Rattle.parse_units.specs.Places.{unit_fault}
use Rattle.parse_units.proofs.unit_fault.Goals as goal

pub returns : goal.returns
unfolding unit_fault
returns c =
    cc
