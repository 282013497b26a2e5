use Rattle.res_tokens.proofs.Cases.{Marking}
use Rattle.res_tokens.proofs.mark_statements.Given as goal

abbrev pub invariant-loop-r : goal.invariant-loop-r
invariant-loop-r l =
    Marking l.k l.c l.n l.initial.out l.out l.r
