use Rattle.test_lines.proofs.Loops.{checking}
use Rattle.test_lines.proofs.has_numbers.Goals as goal

pub loop-k-init : goal.loop-k-init
loop-k-init c =
    search checking

pub returns-then-field-ge-NO_NUMBER : goal.returns-then-field-ge-NO_NUMBER
returns-then-field-ge-NO_NUMBER c =
    search checking

pub loop-k-preserved : goal.loop-k-preserved
loop-k-preserved c =
    search checking
