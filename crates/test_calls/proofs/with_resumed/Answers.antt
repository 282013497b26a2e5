use Rattle.test_calls.proofs.Cases.{with-resumed-is}
use Rattle.test_calls.proofs.with_resumed.Goals as goal

pub returns : goal.returns
returns c =
    search with-resumed-is
