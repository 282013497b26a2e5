use Rattle.vm_guard.proofs.Cases.{import-ways}
use Rattle.vm_guard.proofs.leaves_frame.Goals as goal

pub returns-then-is_return : goal.returns-then-is_return
returns-then-is_return c =
    search import-ways

pub returns : goal.returns
returns c =
    search import-ways
