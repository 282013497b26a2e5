use Rattle.test_state.specs.Progress.{counted_of}
use mathlib.Core.Path.{refl}
use Rattle.test_state.proofs.with_counts.Goals as goal

pub returns : goal.returns
unfolding counted_of
returns c =
    refl
