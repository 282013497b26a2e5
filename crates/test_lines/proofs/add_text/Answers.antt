use Rattle.test_lines.proofs.Loops.{texting}
use Rattle.test_lines.proofs.add_text.Goals as goal

pub loop-i-init : goal.loop-i-init
loop-i-init c =
    search texting

pub returns-then-c-gt255 : goal.returns-then-c-gt255
returns-then-c-gt255 c =
    search texting

pub loop-i-preserved : goal.loop-i-preserved
loop-i-preserved c =
    search texting

pub returns : goal.returns
returns c =
    search texting
