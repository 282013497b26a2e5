use Rattle.lex_spelling.proofs.Cases.{escapes}
use Rattle.lex_spelling.proofs.escape.Goals as goal

pub returns-then-c-eq120 : goal.returns-then-c-eq120
returns-then-c-eq120 c =
    search escapes

pub returns : goal.returns
returns c =
    search escapes
