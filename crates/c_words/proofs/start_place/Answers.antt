use Rattle.c_words.specs.Reply.{start_place}
use Rattle.c_words.proofs.start_place.Goals as goal

pub returns-in-Ok : goal.returns-in-Ok
unfolding start_place
returns-in-Ok c =
    cc

pub returns-in-Err : goal.returns-in-Err
unfolding start_place
returns-in-Err c =
    cc
