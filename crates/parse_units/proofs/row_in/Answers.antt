use Rattle.parse_units.specs.Outline.{row_in}
use Rattle.parse_units.proofs.row_in.Goals as goal

pub returns : goal.returns
unfolding row_in
returns c =
    cc
