use Rattle.lex_spelling.proofs.Ends.{Blanks}
use Rattle.lex_spelling.proofs.blanks_end.Given as goal

abbrev pub invariant-loop-i : goal.invariant-loop-i
invariant-loop-i l =
    Blanks l.s l.at l.i
