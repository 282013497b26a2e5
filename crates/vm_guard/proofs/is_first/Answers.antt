use Rattle.vm_guard.proofs.Cases.{first-ways}
use Rattle.vm_guard.proofs.is_first.Goals as goal

pub returns-then-p : goal.returns-then-p
returns-then-p c =
    search first-ways

pub returns-then-s-eq0 : goal.returns-then-s-eq0
returns-then-s-eq0 c =
    search first-ways

pub returns : goal.returns
returns c =
    search first-ways
