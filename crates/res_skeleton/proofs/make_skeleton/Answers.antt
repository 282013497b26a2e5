use Rattle.res_skeleton.proofs.Cases.{skeleton-is}
use borrow.Author.Rules.{rules}
use Rattle.res_skeleton.proofs.make_skeleton.Goals as goal

pub returns : goal.returns
returns c =
    search (skeleton-is, rules)
