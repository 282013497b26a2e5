use Rattle.parse_outline.proofs.Marking.{walking, walking-less, walking-fits}
use Rattle.parse_outline.proofs.marks_from.Goals as goal

pub loop-y-init : goal.loop-y-init
loop-y-init c =
    search walking

pub mark_step-requires : goal.mark_step-requires
mark_step-requires c =
    search walking-fits

pub loop-y-smaller : goal.loop-y-smaller
loop-y-smaller c =
    search walking-less

pub loop-y-preserved : goal.loop-y-preserved
loop-y-preserved c =
    search walking

pub returns : goal.returns
returns c =
    search walking
