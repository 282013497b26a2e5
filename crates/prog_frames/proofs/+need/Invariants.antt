use Rattle.prog_frames.proofs.Cases.{Needing}
use Rattle.prog_tables.specs.Statement.{row_at}
use Rattle.prog_frames.proofs.+need.Given as goal

abbrev pub decreases-need : goal.decreases-need
decreases-need l = l.depth

abbrev pub invariant-loop-i : goal.invariant-loop-i
invariant-loop-i l =
    Needing (row_at l.t) l.c l.depth l.s l.lets l.most l.i
