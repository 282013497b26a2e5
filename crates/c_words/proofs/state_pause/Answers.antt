use Rattle.c_words.specs.Record.{state_pause}
use Rattle.c_words.proofs.state_pause.Goals as goal

pub returns-in-Running : goal.returns-in-Running
unfolding state_pause
returns-in-Running c =
    cc

pub returns-in-Finished : goal.returns-in-Finished
unfolding state_pause
returns-in-Finished c =
    cc

pub returns-in-Stopped : goal.returns-in-Stopped
unfolding state_pause
returns-in-Stopped c =
    cc

pub returns-in-Paused : goal.returns-in-Paused
unfolding state_pause
returns-in-Paused c =
    cc
