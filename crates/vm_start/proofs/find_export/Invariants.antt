use Rattle.vm_start.proofs.Cases.{Finding}
use Rattle.vm_start.proofs.find_export.Given as goal

abbrev pub invariant-loop-i : goal.invariant-loop-i
invariant-loop-i l =
    Finding l.l l.names l.name l.k l.i
