use Rattle.test_calls.proofs.Cases.{do-resume-is}
use Rattle.test_calls.proofs.do_resume.Goals as goal

pub returns : goal.returns
returns c =
    search do-resume-is
