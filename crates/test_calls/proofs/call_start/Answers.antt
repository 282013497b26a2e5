use Rattle.test_calls.proofs.Cases.{call-start-is}
use Rattle.test_calls.proofs.call_start.Goals as goal

pub returns : goal.returns
returns c =
    search call-start-is
