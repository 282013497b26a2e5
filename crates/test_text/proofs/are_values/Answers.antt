use Rattle.test_text.proofs.Loops.{valuing}
use Rattle.test_text.proofs.are_values.Goals as goal

pub loop-k-init : goal.loop-k-init
loop-k-init c =
    search valuing

pub returns-then-value-ge-NO_NUMBER : goal.returns-then-value-ge-NO_NUMBER
returns-then-value-ge-NO_NUMBER c =
    search valuing

pub loop-k-preserved : goal.loop-k-preserved
loop-k-preserved c =
    search valuing

pub returns : goal.returns
returns c =
    search valuing
