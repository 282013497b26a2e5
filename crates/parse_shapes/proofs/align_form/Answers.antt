use Rattle.parse_shapes.proofs.Shapes.{arms}
use borrow.Author.Rules.{rules}
use Rattle.parse_shapes.proofs.align_form.Goals as goal

pub returns-then-operand_count-eq0 : goal.returns-then-operand_count-eq0
returns-then-operand_count-eq0 c =
    search (arms, rules)

pub returns-else-operand_count-eq0 : goal.returns-else-operand_count-eq0
returns-else-operand_count-eq0 c =
    search (arms, rules)
