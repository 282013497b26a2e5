use Rattle.res_skeleton.specs.Skeleton.{bare}
use Rattle.parse_units.specs.Outline.{row_at}
use Rattle.res_skeleton.proofs.bare_row.Goals as goal

pub returns : goal.returns
unfolding bare row_at
returns c =
    cc
