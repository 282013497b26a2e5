use Rattle.vm_memory.proofs.Cases.{frame-built}
use Rattle.vm_memory.proofs.build_frame.Goals as goal

pub returns : goal.returns
returns c =
    search frame-built
