use Rattle.test_text.proofs.Cases.{states}
use Rattle.test_text.proofs.add_state.Goals as goal

pub returns-in-Running : goal.returns-in-Running
returns-in-Running c =
    search states

pub returns-in-Finished : goal.returns-in-Finished
returns-in-Finished c =
    search states

pub returns-in-Stopped : goal.returns-in-Stopped
returns-in-Stopped c =
    search states

pub returns-in-Paused : goal.returns-in-Paused
returns-in-Paused c =
    search states
