use Rattle.lex_lexeme.proofs.Gaps.{gapping}
use Rattle.lex_lexeme.proofs.gap_end.Goals as goal

pub loop-i-init : goal.loop-i-init
loop-i-init c =
    search gapping

pub loop-i-preserved : goal.loop-i-preserved
loop-i-preserved c =
    search gapping

pub returns-else-i-j : goal.returns-else-i-j
returns-else-i-j c =
    search gapping

pub returns : goal.returns
returns c =
    search gapping
