use Rattle.res_rows.specs.Rows.{label_number}
use borrow.Author.Rules.{rules}
use Rattle.res_rows.proofs.label_number.Goals as goal

pub returns : goal.returns
unfolding label_number
returns c =
    search rules
