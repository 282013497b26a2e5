use Rattle.test_lines.proofs.Loops.{Checking}
use Rattle.test_lines.proofs.has_numbers.Given as goal

abbrev pub invariant-loop-k : goal.invariant-loop-k
invariant-loop-k l =
    Checking l.l l.from l.end l.k
