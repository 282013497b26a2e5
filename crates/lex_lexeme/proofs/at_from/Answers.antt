use Rattle.lex_lexeme.proofs.Cases.{marks, percent-within, integer-within}
use borrow.Author.Rules.{rules}
use Rattle.lex_lexeme.proofs.at_from.Goals as goal

pub read_marked-requires : goal.read_marked-requires
read_marked-requires c =
    search (percent-within, rules)

pub returns-then-c-eq37 : goal.returns-then-c-eq37
returns-then-c-eq37 c =
    search marks

pub returns-then-starts_symbol : goal.returns-then-starts_symbol
returns-then-starts_symbol c =
    search marks

pub read_integer-requires : goal.read_integer-requires
read_integer-requires c =
    search (integer-within, rules)

pub returns-then-starts_integer : goal.returns-then-starts_integer
returns-then-starts_integer c =
    search marks

pub returns : goal.returns
returns c =
    search marks
