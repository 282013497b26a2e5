use Rattle.lex_lexeme.proofs.Cases.{symbols}
use Rattle.lex_lexeme.proofs.symbol_to.Goals as goal

pub returns-then-byte_at-eq58 : goal.returns-then-byte_at-eq58
returns-then-byte_at-eq58 c =
    search symbols

pub returns-then-kind-eq-SYMBOL : goal.returns-then-kind-eq-SYMBOL
returns-then-kind-eq-SYMBOL c =
    search symbols

pub returns : goal.returns
returns c =
    search symbols
