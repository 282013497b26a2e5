use borrow.Author.Rules.{rules}
use Rattle.prog_frames.proofs.Cases.{needing}
use Rattle.prog_frames.proofs.+need.Goals as goal
use Rattle.prog_frames.proofs.+need.Goals.{then-is_in, else-is_in}

pub returns-then-depth-eq0 : goal.returns-then-depth-eq0
returns-then-depth-eq0 t c =
    search (needing, rules)

pub loop-i-init : goal.loop-i-init
loop-i-init t c =
    search (needing, rules)

pub loop-i-preserved : goal.loop-i-preserved
loop-i-preserved t c =
    elim c.if-is_in.branch [ then-is_in w ↦ search (needing, rules) | else-is_in w ↦ search (needing, rules) ]

pub returns : goal.returns
returns t c =
    search (needing, rules)
