use Rattle.c_words.specs.Reply.{state_flag}
use Rattle.c_words.proofs.state_flag.Goals as goal

pub returns-in-Running : goal.returns-in-Running
unfolding state_flag
returns-in-Running c =
    cc

pub returns-in-Finished : goal.returns-in-Finished
unfolding state_flag
returns-in-Finished c =
    cc

pub returns-in-Stopped : goal.returns-in-Stopped
unfolding state_flag
returns-in-Stopped c =
    cc

pub returns-in-Paused : goal.returns-in-Paused
unfolding state_flag
returns-in-Paused c =
    cc
