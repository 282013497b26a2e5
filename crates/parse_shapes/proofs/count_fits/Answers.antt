use Rattle.parse_shapes.proofs.Shapes.{counts}
use borrow.Author.Rules.{rules}
use Rattle.parse_shapes.proofs.count_fits.Goals as goal

pub returns-then-is_listed : goal.returns-then-is_listed
returns-then-is_listed c =
    search (counts, rules)

pub returns-else-is_listed : goal.returns-else-is_listed
returns-else-is_listed c =
    search (counts, rules)

pub returns-else-least_operands-n : goal.returns-else-least_operands-n
returns-else-least_operands-n c =
    search (counts, rules)
