use Rattle.res_scope.specs.Names.{same_number}
use Rattle.res_names.proofs.Folds.{Parameters}
use Rattle.res_names.proofs.parameters_fault.Given as goal

abbrev pub invariant-loop-q : goal.invariant-loop-q
invariant-loop-q l =
    Parameters (same_number l.t) l.t l.n l.k l.r l.initial.q l.end l.initial.best l.best l.q
