use Rattle.test_calls.proofs.Cases.{start-named-is}
use Rattle.test_calls.proofs.start_named.Goals as goal

pub returns : goal.returns
returns c =
    search start-named-is
