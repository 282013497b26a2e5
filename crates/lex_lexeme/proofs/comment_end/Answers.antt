use Rattle.lex_lexeme.proofs.Gaps.{commenting}
use borrow.Author.Rules.{rules}
use Rattle.lex_lexeme.proofs.comment_end.Goals as goal

pub loop-i-init : goal.loop-i-init
loop-i-init c =
    search commenting

pub returns-then-s-i-eq10 : goal.returns-then-s-i-eq10
returns-then-s-i-eq10 c =
    search (commenting, rules)

pub loop-i-preserved : goal.loop-i-preserved
loop-i-preserved c =
    search (commenting, rules)

pub returns : goal.returns
returns c =
    search commenting
