use Rattle.test_state.specs.Progress.{all_lent}
use mathlib.Core.Path.{refl}
use Rattle.test_state.proofs.full.Goals as goal

pub returns : goal.returns
unfolding all_lent
returns c =
    refl
