use Rattle.test_text.proofs.Loops.{storing-bytes}
use Rattle.test_text.proofs.put_bytes.Goals as goal

pub loop-f-init : goal.loop-f-init
loop-f-init c =
    search storing-bytes

pub returns-then-n-i : goal.returns-then-n-i
returns-then-n-i c =
    search storing-bytes

pub returns-then-i-ge-MEMORY : goal.returns-then-i-ge-MEMORY
returns-then-i-ge-MEMORY c =
    search storing-bytes

pub returns-then-v-gt255 : goal.returns-then-v-gt255
returns-then-v-gt255 c =
    search storing-bytes

pub loop-f-preserved : goal.loop-f-preserved
loop-f-preserved c =
    search storing-bytes

pub returns : goal.returns
returns c =
    search storing-bytes
