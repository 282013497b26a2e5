use mathlib.Core.Path.{refl}
use Rattle.base_limits.specs.Record.{moved_to}
use Rattle.base_limits.proofs.Machine.moved.Goals as goal

pub returns : goal.returns
unfolding moved_to
returns c =
    refl
