use Rattle.test_lines.proofs.Loops.{Numbering}
use Rattle.test_lines.proofs.number_from.Given as goal

abbrev pub invariant-loop-i : goal.invariant-loop-i
invariant-loop-i l =
    Numbering l.l l.at l.n l.i l.v
