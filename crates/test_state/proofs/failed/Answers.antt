use Rattle.test_state.specs.Progress.{numbered_of}
use Rattle.test_state.proofs.failed.Goals as goal

pub returns : goal.returns
unfolding numbered_of
returns c =
    rw (← c.fault_of-q.ensures)
