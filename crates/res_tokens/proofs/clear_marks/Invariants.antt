use Rattle.res_tokens.proofs.Cases.{Clearing}
use Rattle.res_tokens.proofs.clear_marks.Given as goal

abbrev pub invariant-loop-i : goal.invariant-loop-i
invariant-loop-i l =
    Clearing l.n l.initial.out l.out l.i
