use Rattle.vm_run.proofs.Cases.{keeps-running}
use Rattle.vm_run.proofs.keep_running.Goals as goal

pub returns : goal.returns
returns c =
    search keeps-running
