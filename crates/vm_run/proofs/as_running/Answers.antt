use Rattle.vm_run.proofs.Cases.{as-running}
use Rattle.vm_run.proofs.as_running.Goals as goal

pub returns : goal.returns
returns c =
    search as-running
