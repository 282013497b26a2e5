use Rattle.test_calls.proofs.Cases.{with-outcome-is}
use Rattle.test_calls.proofs.with_outcome.Goals as goal

pub returns : goal.returns
returns c =
    search with-outcome-is
