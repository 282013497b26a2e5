use Rattle.res_rows.proofs.Tables.{head-is}
use borrow.Author.Rules.{rules}
use Rattle.res_rows.proofs.head_of.Goals as goal

pub returns : goal.returns
returns c =
    search (head-is, rules)
