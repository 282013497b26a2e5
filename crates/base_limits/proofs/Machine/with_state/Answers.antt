use mathlib.Core.Path.{refl}
use Rattle.base_limits.specs.Record.{with_state}
use Rattle.base_limits.proofs.Machine.with_state.Goals as goal

pub returns : goal.returns
unfolding with_state
returns c =
    refl
