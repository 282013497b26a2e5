use Rattle.parse_shapes.proofs.Shapes.{kinds-are}
use Rattle.parse_shapes.proofs.is_string.Goals as goal

pub returns : goal.returns
returns c =
    search kinds-are
