use Rattle.res_scope.specs.Names.{same_number}
use Rattle.res_names.proofs.Folds.{Statements}
use Rattle.res_names.proofs.statements_part.Given as goal

abbrev pub invariant-loop-r : goal.invariant-loop-r
invariant-loop-r l =
    Statements (same_number l.t) l.t l.n l.k l.y l.l l.c l.start l.initial.u l.best l.r l.u
