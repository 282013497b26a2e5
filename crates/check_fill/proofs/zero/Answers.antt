use borrow.Author.Rules.{rules}
use Rattle.check_fill.specs.Fill.{zeroed}
use Rattle.check_fill.proofs.zero.Goals as goal

pub returns : goal.returns
unfolding zeroed
returns c =
    search rules
