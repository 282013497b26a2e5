use Rattle.test_calls.proofs.Cases.{call-resume-is}
use Rattle.test_calls.proofs.call_resume.Goals as goal

pub returns : goal.returns
returns c =
    search call-resume-is
