use Rattle.lex_lexeme.proofs.Cases.{symbols, ending-in}
use borrow.Author.Rules.{rules}
use Rattle.lex_lexeme.proofs.symbol_end.Goals as goal

pub symbol_to-requires : goal.symbol_to-requires
symbol_to-requires c =
    search (ending-in, rules)

pub returns-in-Stopped : goal.returns-in-Stopped
returns-in-Stopped c =
    search symbols

pub returns-in-Broken : goal.returns-in-Broken
returns-in-Broken c =
    search symbols
