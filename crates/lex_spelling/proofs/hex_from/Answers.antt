use Rattle.lex_spelling.proofs.Cases.{escapes}
use Rattle.lex_spelling.proofs.hex_from.Goals as goal

pub returns-then-b-lt16 : goal.returns-then-b-lt16
returns-then-b-lt16 c =
    search escapes

pub returns-then-a-lt16 : goal.returns-then-a-lt16
returns-then-a-lt16 c =
    search escapes

pub returns : goal.returns
returns c =
    search escapes
