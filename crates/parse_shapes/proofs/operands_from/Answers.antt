use Rattle.parse_shapes.specs.Shapes.{operands_from}
use Rattle.parse_shapes.proofs.operands_from.Goals as goal

pub returns : goal.returns
unfolding operands_from
returns c =
    cc
