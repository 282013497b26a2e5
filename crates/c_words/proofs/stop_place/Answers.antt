use Rattle.c_words.specs.Reply.{stop_place}
use Rattle.c_words.proofs.stop_place.Goals as goal

pub returns-in-Running : goal.returns-in-Running
unfolding stop_place
returns-in-Running c =
    cc

pub returns-in-Finished : goal.returns-in-Finished
unfolding stop_place
returns-in-Finished c =
    cc

pub returns-in-Stopped : goal.returns-in-Stopped
unfolding stop_place
returns-in-Stopped c =
    cc

pub returns-in-Paused : goal.returns-in-Paused
unfolding stop_place
returns-in-Paused c =
    cc
