use Rattle.vm_definitions.specs.Claim.{is_paused}
use Rattle.vm_resume.proofs.is_paused.Goals as goal

pub returns-in-Running : goal.returns-in-Running
unfolding is_paused
returns-in-Running c =
    cc

pub returns-in-Finished : goal.returns-in-Finished
unfolding is_paused
returns-in-Finished c =
    cc

pub returns-in-Stopped : goal.returns-in-Stopped
unfolding is_paused
returns-in-Stopped c =
    cc

pub returns-in-Paused : goal.returns-in-Paused
unfolding is_paused
returns-in-Paused c =
    cc
