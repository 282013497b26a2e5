use Rattle.vm_memory.proofs.Cases.{zeroing}
use Rattle.vm_memory.proofs.put_zeros.Goals as goal

pub loop-i-init : goal.loop-i-init
loop-i-init c =
    search zeroing

pub loop-i-preserved : goal.loop-i-preserved
loop-i-preserved c =
    search zeroing

pub returns : goal.returns
returns c =
    search zeroing
