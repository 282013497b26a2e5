use Rattle.c_words.specs.Record.{state_value}
use Rattle.c_words.proofs.state_value.Goals as goal

pub returns-in-Running : goal.returns-in-Running
unfolding state_value
returns-in-Running c =
    cc

pub returns-in-Finished : goal.returns-in-Finished
unfolding state_value
returns-in-Finished c =
    cc

pub returns-in-Stopped : goal.returns-in-Stopped
unfolding state_value
returns-in-Stopped c =
    cc

pub returns-in-Paused : goal.returns-in-Paused
unfolding state_value
returns-in-Paused c =
    cc
