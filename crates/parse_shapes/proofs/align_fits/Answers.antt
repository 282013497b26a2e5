use Rattle.base_prelude.proofs.Choice.{tests}
use borrow.Author.Rules.{rules}
use Rattle.parse_shapes.specs.Shapes.{align_fits}
use Rattle.parse_shapes.proofs.align_fits.Goals as goal

pub returns-then-v-ge1 : goal.returns-then-v-ge1
unfolding align_fits
returns-then-v-ge1 c =
    search (tests, rules)

pub returns-else-v-ge1 : goal.returns-else-v-ge1
unfolding align_fits
returns-else-v-ge1 c =
    search (tests, rules)
