use mathlib.Core.Path.{refl}
use Rattle.base_limits.specs.Record.{ended, mark}
use Rattle.base_limits.proofs.Machine.ended.Goals as goal

pub returns : goal.returns
unfolding ended mark
returns c =
    refl
