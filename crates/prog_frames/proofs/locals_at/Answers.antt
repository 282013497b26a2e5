use Rattle.prog_frames.proofs.Arms.{counted}
use Rattle.prog_frames.proofs.locals_at.Goals as goal
use Rattle.prog_frames.proofs.locals_at.Goals.{then-is_seen, else-is_seen}

pub loop-i-init : goal.loop-i-init
loop-i-init c =
    search counted

pub loop-i-preserved : goal.loop-i-preserved
loop-i-preserved c =
    elim c.if-is_seen.branch [ then-is_seen w ↦ search counted | else-is_seen w ↦ search counted ]

pub returns : goal.returns
returns c =
    search counted
