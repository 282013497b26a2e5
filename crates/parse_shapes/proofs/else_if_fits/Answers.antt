use Rattle.parse_shapes.proofs.Shapes.{arms}
use borrow.Author.Rules.{rules}
use Rattle.parse_shapes.proofs.else_if_fits.Goals as goal

pub returns-then-operand_count-eq-TEST_TOKENS : goal.returns-then-operand_count-eq-TEST_TOKENS
returns-then-operand_count-eq-TEST_TOKENS c =
    search (arms, rules)

pub returns-else-operand_count-eq-TEST_TOKENS : goal.returns-else-operand_count-eq-TEST_TOKENS
returns-else-operand_count-eq-TEST_TOKENS c =
    search (arms, rules)
