use borrow.Author.Rules.{rules}
use Rattle.lex_lexeme.proofs.Cases.{starting}
use Rattle.lex_lexeme.proofs.starts_integer.Goals as goal

pub returns-then-c-eq43 : goal.returns-then-c-eq43
returns-then-c-eq43 c =
    search (starting, rules)

pub returns-else-c-eq43 : goal.returns-else-c-eq43
returns-else-c-eq43 c =
    search (starting, rules)
