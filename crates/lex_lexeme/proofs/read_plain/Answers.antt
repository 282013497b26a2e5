use Rattle.lex_lexeme.proofs.Cases.{plains}
use Rattle.lex_lexeme.proofs.read_plain.Goals as goal

pub returns-then-starts_symbol : goal.returns-then-starts_symbol
returns-then-starts_symbol c =
    search plains

pub returns-then-starts_integer : goal.returns-then-starts_integer
returns-then-starts_integer c =
    search plains

pub returns : goal.returns
returns c =
    search plains
