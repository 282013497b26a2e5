use Rattle.c_words.specs.Reply.{start_number}
use Rattle.c_words.proofs.start_number.Goals as goal

pub returns-in-Ok : goal.returns-in-Ok
unfolding start_number
returns-in-Ok c =
    cc

pub returns-in-Err : goal.returns-in-Err
unfolding start_number
returns-in-Err c =
    cc
