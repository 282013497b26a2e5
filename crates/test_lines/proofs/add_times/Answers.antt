use Rattle.test_lines.proofs.Loops.{repeating}
use Rattle.test_lines.proofs.add_times.Goals as goal

pub loop-init : goal.loop-init
loop-init c =
    search repeating

pub loop-preserved : goal.loop-preserved
loop-preserved c =
    search repeating

pub returns : goal.returns
returns c =
    search repeating
