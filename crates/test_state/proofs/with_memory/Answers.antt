use Rattle.test_state.proofs.Cases.{with-memory-is}
use Rattle.test_state.proofs.with_memory.Goals as goal

pub returns : goal.returns
returns c =
    search with-memory-is
