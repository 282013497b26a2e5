use Rattle.parse_shapes.proofs.Shapes.{expressions}
use borrow.Author.Rules.{rules}
use Rattle.parse_shapes.proofs.operator_from.Goals as goal

pub returns-then-tokens_between-least_operands : goal.returns-then-tokens_between-least_operands
returns-then-tokens_between-least_operands c =
    search (expressions, rules)

pub returns-else-tokens_between-least_operands : goal.returns-else-tokens_between-least_operands
returns-else-tokens_between-least_operands c =
    search (expressions, rules)
