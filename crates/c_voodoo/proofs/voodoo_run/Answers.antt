use Rattle.c_voodoo.proofs.Cases.{runs}
use Rattle.c_voodoo.proofs.voodoo_run.Goals as goal

pub returns-in-Some : goal.returns-in-Some
returns-in-Some c =
    search runs

pub returns-in-None : goal.returns-in-None
returns-in-None c =
    search runs
