use Rattle.parse_shapes.proofs.Shapes.{expressions}
use borrow.Author.Rules.{rules}
use Rattle.parse_shapes.proofs.operand_at.Goals as goal

pub returns-then-next-i : goal.returns-then-next-i
returns-then-next-i c =
    search (expressions, rules)

pub returns-else-next-i : goal.returns-else-next-i
returns-else-next-i c =
    search (expressions, rules)
