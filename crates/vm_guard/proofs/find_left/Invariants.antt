use Rattle.vm_guard.proofs.Cases.{Finding}
use Rattle.prog_tables.specs.Program.{lent_program}
use Rattle.vm_guard.proofs.find_left.Given as goal

abbrev pub invariant-loop-passed : goal.invariant-loop-passed
invariant-loop-passed l =
    Finding (lent_program l.t l.c l.l l.lc l.d) l.next l.st l.s l.b l.at l._passed
