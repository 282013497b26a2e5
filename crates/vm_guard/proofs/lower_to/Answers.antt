use Rattle.vm_guard.proofs.Cases.{lower-ways}
use Rattle.vm_guard.proofs.lower_to.Goals as goal

pub returns-in-No : goal.returns-in-No
returns-in-No c =
    search lower-ways

pub returns-in-At : goal.returns-in-At
returns-in-At c =
    search lower-ways

pub returns-in-Somewhere : goal.returns-in-Somewhere
returns-in-Somewhere c =
    search lower-ways
