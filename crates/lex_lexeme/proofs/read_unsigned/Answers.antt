use Rattle.lex_lexeme.proofs.Cases.{integers}
use Rattle.lex_lexeme.proofs.read_unsigned.Goals as goal

pub returns-then-d-eq0 : goal.returns-then-d-eq0
returns-then-d-eq0 c =
    search integers

pub returns : goal.returns
returns c =
    search integers
