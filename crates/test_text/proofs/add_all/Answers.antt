use Rattle.test_text.proofs.Loops.{adding}
use Rattle.test_text.proofs.add_all.Goals as goal

pub loop-b-init : goal.loop-b-init
loop-b-init c =
    search adding

pub loop-b-preserved : goal.loop-b-preserved
loop-b-preserved c =
    search adding

pub returns : goal.returns
returns c =
    search adding
