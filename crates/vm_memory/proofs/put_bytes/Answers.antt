use Rattle.vm_memory.proofs.Cases.{copying}
use Rattle.vm_memory.proofs.put_bytes.Goals as goal

pub loop-i-init : goal.loop-i-init
loop-i-init c =
    search copying

pub loop-i-preserved : goal.loop-i-preserved
loop-i-preserved c =
    search copying

pub returns : goal.returns
returns c =
    search copying
