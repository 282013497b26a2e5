use Rattle.test_calls.proofs.Cases.{do-step-is}
use Rattle.test_calls.proofs.do_step.Goals as goal

pub returns : goal.returns
returns c =
    search do-step-is
