use Rattle.lex_spelling.proofs.Cases.{characters}
use Rattle.lex_spelling.proofs.symbol_byte.Goals as goal

pub returns-then-is_name_byte : goal.returns-then-is_name_byte
returns-then-is_name_byte c =
    search characters

pub returns : goal.returns
returns c =
    search characters
