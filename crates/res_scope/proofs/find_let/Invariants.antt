use Rattle.res_scope.specs.Names.{same_number, let_named}
use Rattle.res_scope.proofs.Searches.{Downward}
use Rattle.res_scope.proofs.find_let.Given as goal

abbrev pub invariant-loop-m : goal.invariant-loop-m
invariant-loop-m l =
    Downward (let_named (same_number l.t) l.k l.s l.i) l.n l.f l.m
