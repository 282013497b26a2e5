use Rattle.vm_run.proofs.Cases.{within, state-running}
use Rattle.vm_run.proofs.step_within.Goals as goal

pub as_running-requires : goal.as_running-requires
as_running-requires c =
    search state-running

pub returns-then-is_running : goal.returns-then-is_running
returns-then-is_running c =
    search within

pub returns : goal.returns
returns c =
    search within
