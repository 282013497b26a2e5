use Rattle.res_skeleton.proofs.Cases.{Putting}
use Rattle.res_skeleton.proofs.put_rows.Given as goal

abbrev pub invariant-loop-n : goal.invariant-loop-n
invariant-loop-n l =
    Putting l.initial.k l.x l.c l.k l.n
