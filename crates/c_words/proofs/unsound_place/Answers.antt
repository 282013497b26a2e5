use Rattle.c_words.specs.Reply.{unsound_place}
use Rattle.c_words.proofs.unsound_place.Goals as goal

pub returns-in-No : goal.returns-in-No
unfolding unsound_place
returns-in-No c =
    cc

pub returns-in-At : goal.returns-in-At
unfolding unsound_place
returns-in-At c =
    cc

pub returns-in-Somewhere : goal.returns-in-Somewhere
unfolding unsound_place
returns-in-Somewhere c =
    cc
