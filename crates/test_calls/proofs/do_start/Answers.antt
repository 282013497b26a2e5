use Rattle.test_calls.proofs.Cases.{do-start-is}
use Rattle.test_calls.proofs.do_start.Goals as goal

pub returns : goal.returns
returns c =
    search do-start-is
