use mathlib.Core.Path.{refl}
use Rattle.base_limits.specs.Limits.{limits_of}
use Rattle.base_limits.proofs.all_limits.Goals as goal

pub returns : goal.returns
unfolding limits_of
returns c =
    refl
