use Rattle.vm_memory.proofs.Cases.{store-one}
use Rattle.vm_memory.proofs.put_byte.Goals as goal

pub returns : goal.returns
returns c =
    search store-one
