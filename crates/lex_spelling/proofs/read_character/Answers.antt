use Rattle.lex_spelling.proofs.Cases.{characters}
use Rattle.lex_spelling.proofs.read_character.Goals as goal

pub returns-then-i-s : goal.returns-then-i-s
returns-then-i-s c =
    search characters

pub returns : goal.returns
returns c =
    search characters
