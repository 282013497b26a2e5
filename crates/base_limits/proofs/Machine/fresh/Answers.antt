use mathlib.Core.Path.{refl}
use Rattle.base_limits.specs.Record.{fresh_of}
use Rattle.base_limits.proofs.Machine.fresh.Goals as goal

pub returns : goal.returns
unfolding fresh_of
returns c =
    refl
