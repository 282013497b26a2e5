use mathlib.Core.Path.{refl}
use Rattle.base_limits.specs.Record.{of_parts}
use Rattle.base_limits.proofs.Machine.of_parts.Goals as goal

pub returns : goal.returns
unfolding of_parts
returns c =
    refl
