use Rattle.vm_memory.proofs.Cases.{head-put}
use Rattle.vm_memory.proofs.put_head.Goals as goal

pub returns : goal.returns
returns c =
    search head-put
