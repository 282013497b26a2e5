use Rattle.test_state.proofs.Cases.{with-stack-is}
use Rattle.test_state.proofs.with_stack.Goals as goal

pub returns : goal.returns
returns c =
    search with-stack-is
