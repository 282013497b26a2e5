use Rattle.vm_guard.proofs.Cases.{behind}
use Rattle.vm_guard.proofs.is_behind.Goals as goal

pub returns : goal.returns
returns c =
    search behind
