use Rattle.prog_scope.proofs.Loops.{Holding}
use Rattle.prog_scope.proofs.rows_held.Given as goal

abbrev pub invariant-loop-n : goal.invariant-loop-n
invariant-loop-n l =
    Holding l.t l.c l.l l.k l.d l.x l.y l.n
