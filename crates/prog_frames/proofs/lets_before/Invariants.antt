use Rattle.prog_frames.proofs.Cases.{Counting}
use Rattle.prog_tables.specs.Statement.{row_at}
use Rattle.prog_frames.proofs.lets_before.Given as goal

abbrev pub invariant-loop-i : goal.invariant-loop-i
invariant-loop-i l =
    Counting (row_at l.t) l.s l.n l.lets l.i
