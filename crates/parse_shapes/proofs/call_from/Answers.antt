use Rattle.parse_shapes.proofs.Shapes.{expressions}
use borrow.Author.Rules.{rules}
use Rattle.parse_shapes.proofs.call_from.Goals as goal

pub returns-then-is_name : goal.returns-then-is_name
returns-then-is_name c =
    search (expressions, rules)

pub returns-else-is_name : goal.returns-else-is_name
returns-else-is_name c =
    search (expressions, rules)
