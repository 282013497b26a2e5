use Rattle.c_words.specs.Reply.{broken_place}
use Rattle.c_words.proofs.broken_place.Goals as goal

pub returns-in-No : goal.returns-in-No
unfolding broken_place
returns-in-No c =
    cc

pub returns-in-At : goal.returns-in-At
unfolding broken_place
returns-in-At c =
    cc

pub returns-in-Somewhere : goal.returns-in-Somewhere
unfolding broken_place
returns-in-Somewhere c =
    cc
