use Rattle.vm_memory.proofs.Cases.{put-past}
use Rattle.test_text.proofs.put.Goals as goal

pub returns-else-i-m : goal.returns-else-i-m
returns-else-i-m c =
    search put-past
