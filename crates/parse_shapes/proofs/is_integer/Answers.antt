use Rattle.parse_shapes.proofs.Shapes.{kinds-are}
use borrow.Author.Rules.{rules}
use Rattle.parse_shapes.proofs.is_integer.Goals as goal

pub returns-in-7 : goal.returns-in-7
returns-in-7 c =
    search (kinds-are, rules)

pub returns-in_default : goal.returns-in_default
returns-in_default c =
    search (kinds-are, rules)
