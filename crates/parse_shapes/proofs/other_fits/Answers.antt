use Rattle.parse_shapes.proofs.Shapes.{others}
use borrow.Author.Rules.{rules}
use Rattle.parse_shapes.proofs.other_fits.Goals as goal

pub returns-in-27 : goal.returns-in-27
returns-in-27 c =
    search (others, rules)

pub returns-in-28 : goal.returns-in-28
returns-in-28 c =
    search (others, rules)

pub returns-in-31 : goal.returns-in-31
returns-in-31 c =
    search (others, rules)

pub returns-in-29 : goal.returns-in-29
returns-in-29 c =
    search (others, rules)

pub returns-in_default : goal.returns-in_default
returns-in_default c =
    search (others, rules)
