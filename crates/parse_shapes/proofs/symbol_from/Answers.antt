use Rattle.parse_shapes.proofs.Shapes.{expressions}
use Rattle.parse_shapes.proofs.symbol_from.Goals as goal

pub returns-then-w-eq-CALL : goal.returns-then-w-eq-CALL
returns-then-w-eq-CALL c =
    search expressions

pub returns-then-is_operator : goal.returns-then-is_operator
returns-then-is_operator c =
    search expressions

pub returns : goal.returns
returns c =
    search expressions
