use mathlib.Core.Path.{refl}
use Rattle.base_limits.specs.Record.{stopped}
use Rattle.base_limits.proofs.Machine.stopped.Goals as goal

pub returns : goal.returns
unfolding stopped
returns c =
    refl
