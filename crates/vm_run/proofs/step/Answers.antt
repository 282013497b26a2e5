use Rattle.vm_run.proofs.Cases.{step_run}
use Rattle.vm_run.proofs.step.Goals as goal

pub returns : goal.returns
returns c =
    search step_run
