use Rattle.test_calls.proofs.Cases.{with-opening-is}
use Rattle.test_calls.proofs.with_opening.Goals as goal

pub returns : goal.returns
returns c =
    search with-opening-is
