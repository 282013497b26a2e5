use Rattle.c_voodoo.proofs.Cases.{resumes}
use Rattle.c_voodoo.proofs.voodoo_resume.Goals as goal

pub returns-in-Some : goal.returns-in-Some
returns-in-Some c =
    search resumes

pub returns-in-None : goal.returns-in-None
returns-in-None c =
    search resumes
