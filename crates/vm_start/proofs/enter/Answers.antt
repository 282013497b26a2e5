use Rattle.vm_start.proofs.Cases.{enter-ways}
use Rattle.vm_start.proofs.enter.Goals as goal

pub returns-then-n-p : goal.returns-then-n-p
returns-then-n-p c =
    search enter-ways

pub returns : goal.returns
returns c =
    search enter-ways
