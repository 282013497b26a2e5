use Rattle.test_state.specs.Progress.{checked_of}
use mathlib.Core.Path.{refl}
use Rattle.test_state.proofs.set_checked.Goals as goal

pub returns : goal.returns
unfolding checked_of
returns c =
    refl
