use Rattle.test_text.proofs.Loops.{lining}
use Rattle.test_text.proofs.plain_line.Goals as goal

pub loop-k-init : goal.loop-k-init
loop-k-init c =
    search lining

pub loop-k-preserved : goal.loop-k-preserved
loop-k-preserved c =
    search lining

pub returns : goal.returns
returns c =
    search lining
