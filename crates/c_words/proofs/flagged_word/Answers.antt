use Rattle.c_words.specs.Reply.{flagged_word}
use Rattle.c_words.proofs.flagged_word.Goals as goal

pub returns-in-Running : goal.returns-in-Running
unfolding flagged_word
returns-in-Running c =
    cc

pub returns-in-Finished : goal.returns-in-Finished
unfolding flagged_word
returns-in-Finished c =
    cc

pub returns-in-Stopped : goal.returns-in-Stopped
unfolding flagged_word
returns-in-Stopped c =
    cc

pub returns-in-Paused : goal.returns-in-Paused
unfolding flagged_word
returns-in-Paused c =
    cc
