use Rattle.test_state.specs.Progress.{failed_of}
use mathlib.Core.Path.{refl}
use Rattle.test_state.proofs.with_fault.Goals as goal

pub returns : goal.returns
unfolding failed_of
returns c =
    refl
