use Rattle.res_scope.specs.Names.{same_number}
use Rattle.res_names.proofs.Folds.{Labels}
use Rattle.res_names.proofs.labels_fault.Given as goal

abbrev pub invariant-loop-j : goal.invariant-loop-j
invariant-loop-j l =
    Labels (same_number l.t) l.t l.n l.y l.l l.best l.j
