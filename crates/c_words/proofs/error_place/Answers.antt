use Rattle.c_words.specs.Reply.{error_place}
use Rattle.c_words.proofs.error_place.Goals as goal

pub returns-in-Refused : goal.returns-in-Refused
unfolding error_place
returns-in-Refused c =
    cc

pub returns-in-Unsound : goal.returns-in-Unsound
unfolding error_place
returns-in-Unsound c =
    cc
