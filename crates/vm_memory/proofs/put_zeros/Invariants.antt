use lib.ListN.{replicate}
use Rattle.vm_memory.proofs.Cases.{Putting}
use Rattle.vm_memory.proofs.put_zeros.Given as goal

abbrev pub invariant-loop-i : goal.invariant-loop-i
invariant-loop-i l =
    Putting l.initial.st l.at (replicate l.n 0) l.st l.i
