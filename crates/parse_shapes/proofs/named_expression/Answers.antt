use Rattle.parse_shapes.proofs.Shapes.{arms}
use borrow.Author.Rules.{rules}
use Rattle.parse_shapes.proofs.named_expression.Goals as goal

pub returns-then-is_name : goal.returns-then-is_name
returns-then-is_name c =
    search (arms, rules)

pub returns-else-is_name : goal.returns-else-is_name
returns-else-is_name c =
    search (arms, rules)
