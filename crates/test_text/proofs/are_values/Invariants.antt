use Rattle.test_text.proofs.Loops.{Valuing}
use Rattle.test_text.proofs.are_values.Given as goal

abbrev pub invariant-loop-k : goal.invariant-loop-k
invariant-loop-k l =
    Valuing l.l l.from l.end l.k
