use Rattle.res_scope.specs.Names.{same_number}
use Rattle.res_names.proofs.Folds.{Operands}
use Rattle.res_names.proofs.operands_part.Given as goal

abbrev pub invariant-loop-i : goal.invariant-loop-i
invariant-loop-i l =
    Operands (same_number l.t) l.t l.n l.k l.y l.l l.r l.initial.i l.next l.initial.best l.initial.u l.best l.i l.u
