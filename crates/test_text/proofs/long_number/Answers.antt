use Rattle.test_text.proofs.Loops.{long-reading}
use Rattle.test_text.proofs.long_number.Goals as goal

pub loop-i-init : goal.loop-i-init
loop-i-init c =
    search long-reading

pub loop-i-preserved : goal.loop-i-preserved
loop-i-preserved c =
    search long-reading

pub returns : goal.returns
returns c =
    search long-reading
