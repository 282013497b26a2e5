use Rattle.test_lines.proofs.Loops.{numbering}
use Rattle.test_lines.proofs.number_from.Goals as goal

pub loop-i-init : goal.loop-i-init
loop-i-init c =
    search numbering

pub returns-then-c-eq32 : goal.returns-then-c-eq32
returns-then-c-eq32 c =
    search numbering

pub loop-i-preserved : goal.loop-i-preserved
loop-i-preserved c =
    search numbering

pub returns : goal.returns
returns c =
    search numbering
