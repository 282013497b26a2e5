use Rattle.lex_lexeme.proofs.Cases.{integers}
use Rattle.lex_lexeme.proofs.read_integer.Goals as goal

pub returns-then-c-eq45 : goal.returns-then-c-eq45
returns-then-c-eq45 c =
    search integers

pub returns-then-c-eq43 : goal.returns-then-c-eq43
returns-then-c-eq43 c =
    search integers

pub returns : goal.returns
returns c =
    search integers
