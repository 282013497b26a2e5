use Rattle.res_scope.specs.Names.{same_number}
use Rattle.res_rows.proofs.Tables.{Writing}
use Rattle.res_rows.proofs.write_rows.Given as goal

abbrev pub invariant-loop-r : goal.invariant-loop-r
invariant-loop-r l =
    Writing (same_number l.t) l.t l.k l.y l.l l.w l.z l.c l.initial.out l.out l.r
