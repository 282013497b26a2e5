use Rattle.test_text.proofs.Loops.{Testing}
use Rattle.test_text.proofs.is_digits.Given as goal

abbrev pub invariant-loop-i : goal.invariant-loop-i
invariant-loop-i l =
    Testing l.l l.from l.i
