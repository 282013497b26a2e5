use mathlib.Core.Path.{refl}
use Rattle.base_limits.specs.Record.{going_on}
use Rattle.base_limits.proofs.Machine.going_on.Goals as goal

pub returns : goal.returns
unfolding going_on
returns c =
    refl
