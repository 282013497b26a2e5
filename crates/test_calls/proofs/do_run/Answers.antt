use Rattle.test_calls.proofs.Cases.{do-run-is}
use Rattle.test_calls.proofs.do_run.Goals as goal

pub returns : goal.returns
returns c =
    search do-run-is
