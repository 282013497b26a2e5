use Rattle.vm_run.specs.Within.{is_running}
use Rattle.vm_run.proofs.is_running.Goals as goal

pub returns-in-Running : goal.returns-in-Running
unfolding is_running
returns-in-Running c =
    cc

pub returns-in-Finished : goal.returns-in-Finished
unfolding is_running
returns-in-Finished c =
    cc

pub returns-in-Stopped : goal.returns-in-Stopped
unfolding is_running
returns-in-Stopped c =
    cc

pub returns-in-Paused : goal.returns-in-Paused
unfolding is_running
returns-in-Paused c =
    cc
