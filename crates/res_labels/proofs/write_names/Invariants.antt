use Rattle.res_labels.proofs.Cases.{Names}
use Rattle.res_labels.proofs.write_names.Given as goal

abbrev pub invariant-loop-j : goal.invariant-loop-j
invariant-loop-j l =
    Names l.s l.t l.y l.l l.initial.names l.names l.j
