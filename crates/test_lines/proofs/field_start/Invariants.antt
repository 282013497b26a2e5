use Rattle.test_lines.proofs.Loops.{Fielding}
use Rattle.test_lines.proofs.field_start.Given as goal

abbrev pub invariant-loop-i : goal.invariant-loop-i
invariant-loop-i l =
    Fielding l.l l.k l.blanks l.i
