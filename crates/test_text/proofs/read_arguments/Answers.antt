use Rattle.test_text.proofs.Loops.{listing}
use Rattle.test_text.proofs.read_arguments.Goals as goal

pub loop-n-init : goal.loop-n-init
loop-n-init c =
    search listing

pub returns-then-count-k : goal.returns-then-count-k
returns-then-count-k c =
    search listing

pub returns-then-v-ge-NO_NUMBER : goal.returns-then-v-ge-NO_NUMBER
returns-then-v-ge-NO_NUMBER c =
    search listing

pub loop-n-preserved : goal.loop-n-preserved
loop-n-preserved c =
    search listing

pub returns-then-count-gt18 : goal.returns-then-count-gt18
returns-then-count-gt18 c =
    search listing

pub returns-else-count-gt18 : goal.returns-else-count-gt18
returns-else-count-gt18 c =
    search listing
