use Rattle.parse_rules.proofs.Loops.{Labels}
use Rattle.parse_rules.proofs.labels_from.Given as goal

abbrev pub invariant-loop-i : goal.invariant-loop-i
invariant-loop-i l =
    Labels l.t l.n l.first l.end l.c l.x l.i
