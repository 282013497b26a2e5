use Rattle.prog_frames.proofs.Cases.{counting-start, counting}
use Rattle.prog_frames.proofs.lets_before.Goals as goal
use Rattle.prog_frames.proofs.lets_before.Goals.{then-is_in, else-is_in}

pub loop-i-init : goal.loop-i-init
loop-i-init c =
    search counting-start

pub loop-i-preserved : goal.loop-i-preserved
loop-i-preserved c =
    elim c.if-is_in.branch [ then-is_in w ↦ search counting | else-is_in w ↦ search counting ]

pub returns : goal.returns
returns c =
    search counting
