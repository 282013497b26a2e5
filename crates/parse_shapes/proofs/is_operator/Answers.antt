use Rattle.base_prelude.proofs.Choice.{tests}
use borrow.Author.Rules.{rules}
use Rattle.parse_shapes.specs.Shapes.{is_operator}
use Rattle.parse_shapes.proofs.is_operator.Goals as goal

pub returns-then-w-ge-ADD : goal.returns-then-w-ge-ADD
unfolding is_operator
returns-then-w-ge-ADD c =
    search (tests, rules)

pub returns-else-w-ge-ADD : goal.returns-else-w-ge-ADD
unfolding is_operator
returns-else-w-ge-ADD c =
    search (tests, rules)
