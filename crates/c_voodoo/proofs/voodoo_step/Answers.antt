use Rattle.c_voodoo.proofs.Cases.{steps}
use Rattle.c_voodoo.proofs.voodoo_step.Goals as goal

pub returns-in-Some : goal.returns-in-Some
returns-in-Some c =
    search steps

pub returns-in-None : goal.returns-in-None
returns-in-None c =
    search steps
