use Rattle.vm_guard.proofs.Cases.{Resumption-to}
use Rattle.prog_tables.specs.Statement.{row_at}
use Rattle.vm_guard.proofs.resumption.Given as goal

abbrev pub invariant-loop-passed : goal.invariant-loop-passed
invariant-loop-passed l =
    Resumption-to (row_at l.t) l.c l.st l.s l.at l._passed
