use Rattle.res_rows.proofs.Tables.{parts-put}
use borrow.Author.Rules.{rules}
use Rattle.res_rows.proofs.put_parts.Goals as goal

pub returns : goal.returns
returns c =
    search (parts-put, rules)
