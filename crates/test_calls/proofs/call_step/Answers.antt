use Rattle.test_calls.proofs.Cases.{call-step-is}
use Rattle.test_calls.proofs.call_step.Goals as goal

pub returns : goal.returns
returns c =
    search call-step-is
