use borrow.Author.Rules.{rules}
use Rattle.res_labels.proofs.Cases.{numbering}
use Rattle.res_labels.proofs.final_number.Goals as goal

pub returns-in-1 : goal.returns-in-1
returns-in-1 c =
    search (numbering, rules)

pub returns-in-6 : goal.returns-in-6
returns-in-6 c =
    search (numbering, rules)

pub returns-in_default : goal.returns-in_default
returns-in_default c =
    search (numbering, rules)
