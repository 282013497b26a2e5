use Rattle.parse_shapes.proofs.Shapes.{ranges}
use borrow.Author.Rules.{rules}
use Rattle.parse_shapes.proofs.range_fits.Goals as goal

pub returns-then-not-is_known : goal.returns-then-not-is_known
returns-then-not-is_known c =
    search (ranges, rules)

pub returns-in-29 : goal.returns-in-29
returns-in-29 c =
    search (ranges, rules)

pub returns-in-28 : goal.returns-in-28
returns-in-28 c =
    search (ranges, rules)

pub returns-in_default : goal.returns-in_default
returns-in_default c =
    search (ranges, rules)
