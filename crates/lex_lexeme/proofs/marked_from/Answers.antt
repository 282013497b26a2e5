use Rattle.lex_lexeme.proofs.Cases.{marks}
use Rattle.lex_lexeme.proofs.marked_from.Goals as goal

pub returns-then-starts_symbol : goal.returns-then-starts_symbol
returns-then-starts_symbol c =
    search marks

pub returns : goal.returns
returns c =
    search marks
