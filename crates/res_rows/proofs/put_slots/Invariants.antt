use Rattle.res_scope.specs.Names.{same_number}
use Rattle.res_rows.proofs.Tables.{Slots}
use Rattle.res_rows.proofs.put_slots.Given as goal

abbrev pub invariant-loop-j : goal.invariant-loop-j
invariant-loop-j l =
    Slots (same_number l.t) l.t l.k l.y l.l l.w l.z l.r l.first l.count l.at l.initial.out l.out l.j
