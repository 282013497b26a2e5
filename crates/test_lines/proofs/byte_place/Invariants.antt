use Rattle.test_lines.proofs.Loops.{ByteSeeking}
use Rattle.test_lines.proofs.byte_place.Given as goal

abbrev pub invariant-loop-i : goal.invariant-loop-i
invariant-loop-i l =
    ByteSeeking l.byte l.s l.at l.i
