use Rattle.test_text.proofs.Loops.{LongReading}
use Rattle.test_text.proofs.long_number.Given as goal

abbrev pub invariant-loop-i : goal.invariant-loop-i
invariant-loop-i l =
    LongReading l.l l.from l.n l.i
