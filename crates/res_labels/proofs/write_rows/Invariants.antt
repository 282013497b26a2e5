use Rattle.res_labels.proofs.Cases.{Rows}
use Rattle.res_labels.proofs.write_rows.Given as goal

abbrev pub invariant-loop-j : goal.invariant-loop-j
invariant-loop-j l =
    Rows l.w l.t l.y l.flags l.l l.initial.out l.out l.j
