use Rattle.vm_operands.proofs.Cases.{load_is}
use Rattle.vm_operands.proofs.load.Goals as goal

pub returns : goal.returns
returns c =
    search load_is
