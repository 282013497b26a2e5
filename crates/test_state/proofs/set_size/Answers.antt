use Rattle.test_state.specs.Progress.{sized_of}
use mathlib.Core.Path.{refl}
use Rattle.test_state.proofs.set_size.Goals as goal

pub returns : goal.returns
unfolding sized_of
returns c =
    refl
