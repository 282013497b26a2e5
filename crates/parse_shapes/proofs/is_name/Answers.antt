use Rattle.parse_shapes.proofs.Shapes.{kinds-are}
use Rattle.parse_shapes.proofs.is_name.Goals as goal

pub returns : goal.returns
returns c =
    search kinds-are
