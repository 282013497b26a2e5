use Rattle.lex_spelling.proofs.Cases.{characters}
use Rattle.lex_spelling.proofs.raw_byte.Goals as goal

pub returns-then-quoted : goal.returns-then-quoted
returns-then-quoted c =
    search characters

pub returns : goal.returns
returns c =
    search characters
