use Rattle.vm_start.proofs.Cases.{start-sound, start-ways}
use mathlib.Core.Path.{refl}
use Rattle.vm_start.proofs.start.Goals as goal

pub begin-requires : goal.begin-requires
begin-requires c =
    start-sound _ _ _ c.in-No.ensures refl

pub returns-in-At : goal.returns-in-At
returns-in-At c =
    search start-ways

pub returns-in-Somewhere : goal.returns-in-Somewhere
returns-in-Somewhere c =
    search start-ways
