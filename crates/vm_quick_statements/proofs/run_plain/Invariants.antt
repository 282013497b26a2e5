use Rattle.vm_quick_statements.proofs.Cases.{SoFar}
use Rattle.vm_quick_statements.proofs.run_plain.Given as goal

abbrev pub invariant-loop-count : goal.invariant-loop-count
invariant-loop-count l =
    SoFar l.t l.c l.g l.d l.size l.s l.budget l.initial.st l.initial.m l.initial.next l.initial.end l.st l.m l.next l.end l.count
