use Rattle.prog_frames.proofs.Arms.{Seeing}
use Rattle.prog_tables.specs.Statement.{row_at}
use Rattle.prog_frames.proofs.locals_at.Given as goal

abbrev pub invariant-loop-i : goal.invariant-loop-i
invariant-loop-i l =
    Seeing (row_at l.t) l.s l.n l.seen l.i
