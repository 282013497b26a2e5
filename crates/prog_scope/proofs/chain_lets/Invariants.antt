use Rattle.prog_scope.proofs.Loops.{Summing}
use Rattle.prog_tables.specs.Statement.{row_at}
use Rattle.prog_scope.proofs.chain_lets.Given as goal

abbrev pub invariant-loop : goal.invariant-loop
invariant-loop l =
    Summing (row_at l.t) l.x l.inner l.s l.sum l.counter
