use Rattle.parse_shapes.proofs.Shapes.{shapes}
use borrow.Author.Rules.{rules}
use Rattle.parse_shapes.proofs.shape_fits.Goals as goal

pub returns-then-form_fits : goal.returns-then-form_fits
returns-then-form_fits c =
    search (shapes, rules)

pub returns-else-form_fits : goal.returns-else-form_fits
returns-else-form_fits c =
    search (shapes, rules)
