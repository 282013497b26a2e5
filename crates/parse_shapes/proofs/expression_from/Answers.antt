use Rattle.parse_shapes.proofs.Shapes.{expressions}
use Rattle.parse_shapes.proofs.expression_from.Goals as goal

pub returns-then-is_name : goal.returns-then-is_name
returns-then-is_name c =
    search expressions

pub returns : goal.returns
returns c =
    search expressions
