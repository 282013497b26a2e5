use Rattle.test_calls.proofs.Cases.{call-run-is}
use Rattle.test_calls.proofs.call_run.Goals as goal

pub returns : goal.returns
returns c =
    search call-run-is
