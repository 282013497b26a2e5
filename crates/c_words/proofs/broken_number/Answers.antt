use Rattle.c_words.specs.Reply.{broken_number}
use Rattle.c_words.proofs.broken_number.Goals as goal

pub returns-in-No : goal.returns-in-No
unfolding broken_number
returns-in-No c =
    cc

pub returns-in-At : goal.returns-in-At
unfolding broken_number
returns-in-At c =
    cc

pub returns-in-Somewhere : goal.returns-in-Somewhere
unfolding broken_number
returns-in-Somewhere c =
    cc
