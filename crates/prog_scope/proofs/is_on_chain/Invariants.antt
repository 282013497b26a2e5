use Rattle.prog_scope.proofs.Loops.{Climbing}
use Rattle.prog_tables.specs.Statement.{row_at}
use Rattle.prog_scope.proofs.is_on_chain.Given as goal

abbrev pub invariant-loop : goal.invariant-loop
invariant-loop l =
    Climbing (row_at l.t) l.x l.w l.inner l.s l.counter
