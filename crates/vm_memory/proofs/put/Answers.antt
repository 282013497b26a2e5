use Rattle.vm_memory.proofs.Cases.{put-past}
use Rattle.vm_memory.proofs.put.Goals as goal

pub returns-else-i-st : goal.returns-else-i-st
returns-else-i-st c =
    search put-past
