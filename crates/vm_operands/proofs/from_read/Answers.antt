use Rattle.vm_definitions.specs.Operators.{fetched}
use Rattle.vm_operands.proofs.from_read.Goals as goal

pub returns-in-Some : goal.returns-in-Some
unfolding fetched
returns-in-Some c =
    cc

pub returns-in-None : goal.returns-in-None
unfolding fetched
returns-in-None c =
    cc
