use Rattle.parse_units.specs.Outline.{row_at}
use Rattle.parse_units.proofs.row_at.Goals as goal

pub returns : goal.returns
unfolding row_at
returns c =
    cc
