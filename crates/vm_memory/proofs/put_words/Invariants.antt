use Rattle.vm_memory.proofs.Cases.{Putting}
use Rattle.vm_memory.proofs.put_words.Given as goal

abbrev pub invariant-loop-i : goal.invariant-loop-i
invariant-loop-i l =
    Putting l.initial.st l.at l.ws l.st l.i
