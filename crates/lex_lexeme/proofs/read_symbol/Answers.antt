use Rattle.lex_lexeme.proofs.Cases.{symbols, spelled-end}
use borrow.Author.Rules.{rules}
use Rattle.lex_lexeme.proofs.read_symbol.Goals as goal

pub symbol_end-requires : goal.symbol_end-requires
symbol_end-requires c =
    search (spelled-end, rules)

pub returns : goal.returns
returns c =
    search symbols
