use Rattle.vm_memory.proofs.Cases.{Copying}
use Rattle.vm_memory.proofs.put_bytes.Given as goal

abbrev pub invariant-loop-i : goal.invariant-loop-i
invariant-loop-i l =
    Copying l.initial.m l.bytes l.n l.m l.i
