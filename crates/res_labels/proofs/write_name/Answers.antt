use Rattle.res_labels.proofs.Cases.{name-put}
use borrow.Author.Rules.{rules}
use Rattle.res_labels.proofs.write_name.Goals as goal

pub returns : goal.returns
returns c =
    search (name-put, rules)
