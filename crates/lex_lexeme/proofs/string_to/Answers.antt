use Rattle.lex_lexeme.proofs.Cases.{strings}
use Rattle.lex_lexeme.proofs.string_to.Goals as goal

pub returns-then-byte_at-eq34 : goal.returns-then-byte_at-eq34
returns-then-byte_at-eq34 c =
    search strings

pub returns : goal.returns
returns c =
    search strings
