use Rattle.test_lines.proofs.Loops.{Prefixing}
use Rattle.test_lines.proofs.starts_with.Given as goal

abbrev pub invariant-loop-i : goal.invariant-loop-i
invariant-loop-i l =
    Prefixing l.l l.word l.i
