use Rattle.c_words.specs.Record.{state_place}
use Rattle.c_words.proofs.state_place.Goals as goal

pub returns-in-Running : goal.returns-in-Running
unfolding state_place
returns-in-Running c =
    cc

pub returns-in-Finished : goal.returns-in-Finished
unfolding state_place
returns-in-Finished c =
    cc

pub returns-in-Stopped : goal.returns-in-Stopped
unfolding state_place
returns-in-Stopped c =
    cc

pub returns-in-Paused : goal.returns-in-Paused
unfolding state_place
returns-in-Paused c =
    cc
