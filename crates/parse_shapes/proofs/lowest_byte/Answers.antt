use Rattle.parse_shapes.proofs.Shapes.{ranges}
use Rattle.parse_shapes.proofs.lowest_byte.Goals as goal

pub returns-in-Bits32 : goal.returns-in-Bits32
returns-in-Bits32 c =
    search ranges

pub returns-in-Bits16 : goal.returns-in-Bits16
returns-in-Bits16 c =
    search ranges
