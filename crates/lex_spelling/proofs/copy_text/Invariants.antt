use Rattle.lex_spelling.proofs.Loops.{Copying}
use Rattle.lex_spelling.proofs.copy_text.Given as goal

abbrev pub invariant-loop-k : goal.invariant-loop-k
invariant-loop-k l =
    Copying l.quoted l.s l.at l.initial.out l.out l.i l.k
