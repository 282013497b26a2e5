use Rattle.vm_guard.proofs.Cases.{Leaving}
use Rattle.prog_tables.specs.Statement.{row_at}
use Rattle.vm_guard.proofs.leaves_good.Given as goal

abbrev pub invariant-loop-passed : goal.invariant-loop-passed
invariant-loop-passed l =
    Leaving (row_at l.t) l.c l.m l.st l.s l.at l._passed
