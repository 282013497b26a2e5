use Rattle.lex_lexeme.proofs.Gaps.{Commenting}
use Rattle.lex_lexeme.proofs.comment_end.Given as goal

abbrev pub invariant-loop-i : goal.invariant-loop-i
invariant-loop-i l =
    Commenting l.s l.at l.i
