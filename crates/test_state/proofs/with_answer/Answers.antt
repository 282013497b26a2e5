use Rattle.test_state.specs.Progress.{answered_of}
use mathlib.Core.Path.{refl}
use Rattle.test_state.proofs.with_answer.Goals as goal

pub returns : goal.returns
unfolding answered_of
returns c =
    refl
