use borrow.Author.Rules.{rules}
use Rattle.res_frame_words.proofs.Cases.{values}
use Rattle.res_frame_words.proofs.value_of.Goals as goal

pub returns-in-1 : goal.returns-in-1
returns-in-1 c =
    search (values, rules)

pub returns-in-3 : goal.returns-in-3
returns-in-3 c =
    search (values, rules)

pub returns-in-4 : goal.returns-in-4
returns-in-4 c =
    search (values, rules)

pub returns-in-5 : goal.returns-in-5
returns-in-5 c =
    search (values, rules)

pub returns-in_default : goal.returns-in_default
returns-in_default c =
    search (values, rules)

pub returns-in_default-2 : goal.returns-in_default-2
returns-in_default-2 c =
    search (values, rules)
