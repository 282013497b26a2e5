use Rattle.std.proofs.Common.{refl}
use Rattle.vm_run.proofs.Cases.{taking, take-passed}
use Rattle.vm_run.proofs.take_step.Goals as goal

pub obey-requires : goal.obey-requires
obey-requires c =
    take-passed _ _ _ _ _ _ _ _ _ c.in-No.ensures refl

pub returns-in-No : goal.returns-in-No
returns-in-No c =
    search taking

pub returns-in-At : goal.returns-in-At
returns-in-At c =
    search taking

pub returns-in-Somewhere : goal.returns-in-Somewhere
returns-in-Somewhere c =
    search taking
