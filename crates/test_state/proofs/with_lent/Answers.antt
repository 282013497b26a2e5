use Rattle.test_state.specs.Progress.{lent_of}
use mathlib.Core.Path.{refl}
use Rattle.test_state.proofs.with_lent.Goals as goal

pub returns : goal.returns
unfolding lent_of
returns c =
    refl
