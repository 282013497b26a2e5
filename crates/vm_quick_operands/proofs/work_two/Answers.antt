use Rattle.vm_quick_operands.proofs.Cases.{twos}
use Rattle.vm_quick_operands.proofs.work_two.Goals as goal

pub returns-in_default : goal.returns-in_default
returns-in_default c =
    search twos

pub returns-in_default-read_second : goal.returns-in_default-read_second
returns-in_default-read_second c =
    search twos

pub returns : goal.returns
returns c =
    search twos
