use Rattle.test_text.proofs.Loops.{Changing}
use Rattle.test_text.proofs.changed_word.Given as goal

abbrev pub invariant-loop-i : goal.invariant-loop-i
invariant-loop-i l =
    Changing 16385 l.k l.n l.i
