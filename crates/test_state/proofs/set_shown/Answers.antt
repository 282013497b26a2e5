use Rattle.test_state.specs.Progress.{shown_of}
use mathlib.Core.Path.{refl}
use Rattle.test_state.proofs.set_shown.Goals as goal

pub returns : goal.returns
unfolding shown_of
returns c =
    refl
