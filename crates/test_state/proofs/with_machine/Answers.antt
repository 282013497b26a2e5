use Rattle.test_state.specs.Progress.{machine_of}
use mathlib.Core.Path.{refl}
use Rattle.test_state.proofs.with_machine.Goals as goal

pub returns : goal.returns
unfolding machine_of
returns c =
    refl
