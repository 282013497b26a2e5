use Rattle.parse_shapes.proofs.Shapes.{kinds-are}
use borrow.Author.Rules.{rules}
use Rattle.parse_shapes.proofs.is_known.Goals as goal

pub returns-in-7 : goal.returns-in-7
returns-in-7 c =
    search (kinds-are, rules)

pub returns-in-1 : goal.returns-in-1
returns-in-1 c =
    search (kinds-are, rules)

pub returns-in_default-matches : goal.returns-in_default-matches
returns-in_default-matches c =
    search (kinds-are, rules)

pub returns-in_default-matches-2 : goal.returns-in_default-matches-2
returns-in_default-matches-2 c =
    search (kinds-are, rules)

pub returns-in_default : goal.returns-in_default
returns-in_default c =
    search (kinds-are, rules)
