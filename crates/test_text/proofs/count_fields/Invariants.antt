use Rattle.test_text.proofs.Loops.{Counting}
use Rattle.test_text.proofs.count_fields.Given as goal

abbrev pub invariant-loop-i : goal.invariant-loop-i
invariant-loop-i l =
    Counting l.l l.n l.i
