use Rattle.vm_run.proofs.Cases.{usable}
use Rattle.vm_run.proofs.usable_size.Goals as goal

pub returns-then-is_running : goal.returns-then-is_running
returns-then-is_running c =
    search usable

pub returns : goal.returns
returns c =
    search usable
