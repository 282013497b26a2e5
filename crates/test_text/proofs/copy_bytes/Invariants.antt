use Rattle.vm_memory.proofs.Cases.{Putting}
use Rattle.test_text.proofs.copy_bytes.Given as goal

abbrev pub invariant-loop-i : goal.invariant-loop-i
invariant-loop-i l =
    Putting l.initial.to l.at l.from l.to l.i
