use Rattle.vm_memory.proofs.Cases.{wording}
use Rattle.test_text.proofs.copy_bytes.Goals as goal

pub loop-i-init : goal.loop-i-init
loop-i-init c =
    search wording

pub loop-i-preserved : goal.loop-i-preserved
loop-i-preserved c =
    search wording

pub returns : goal.returns
returns c =
    search wording
