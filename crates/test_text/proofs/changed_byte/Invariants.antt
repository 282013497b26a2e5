use Rattle.test_text.proofs.Loops.{Changing}
use Rattle.test_text.proofs.changed_byte.Given as goal

abbrev pub invariant-loop-i : goal.invariant-loop-i
invariant-loop-i l =
    Changing 65537 l.m l.n l.i
