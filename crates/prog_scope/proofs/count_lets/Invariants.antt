use Rattle.prog_scope.proofs.Loops.{Noting}
use Rattle.prog_scope.proofs.count_lets.Given as goal

abbrev pub invariant-loop-n : goal.invariant-loop-n
invariant-loop-n l =
    Noting l.t l.c l.y l.n
