use Rattle.lex_lexeme.proofs.Digits.{widths}
use Rattle.lex_lexeme.proofs.half_of.Goals as goal

pub returns-in-Bits32 : goal.returns-in-Bits32
returns-in-Bits32 c =
    search widths

pub returns-in-Bits16 : goal.returns-in-Bits16
returns-in-Bits16 c =
    search widths
