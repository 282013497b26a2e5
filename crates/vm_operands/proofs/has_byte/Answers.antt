use Rattle.vm_definitions.specs.Access.{byte_good}
use mathlib.Core.Path.{refl}
use Rattle.vm_operands.proofs.has_byte.Goals as goal

pub returns : goal.returns
unfolding byte_good
returns c =
    refl
