use Rattle.lex_lexeme.proofs.Digits.{digiting}
use Rattle.lex_lexeme.proofs.read_digit.Goals as goal

pub returns-then-i-s : goal.returns-then-i-s
returns-then-i-s c =
    search digiting

pub returns : goal.returns
returns c =
    search digiting
