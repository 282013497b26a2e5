use Rattle.test_state.specs.Progress.{bodied_of}
use mathlib.Core.Path.{refl}
use Rattle.test_state.proofs.set_body.Goals as goal

pub returns : goal.returns
unfolding bodied_of
returns c =
    refl
