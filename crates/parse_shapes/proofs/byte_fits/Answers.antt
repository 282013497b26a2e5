use Rattle.parse_shapes.proofs.Shapes.{ranges}
use borrow.Author.Rules.{rules}
use Rattle.parse_shapes.proofs.byte_fits.Goals as goal

pub returns-then-v-lt256 : goal.returns-then-v-lt256
returns-then-v-lt256 c =
    search (ranges, rules)

pub returns-else-v-lt256 : goal.returns-else-v-lt256
returns-else-v-lt256 c =
    search (ranges, rules)
