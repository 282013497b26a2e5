use borrow.Author.Rules.{rules}
use Rattle.lex_lexeme.proofs.Cases.{starting}
use Rattle.lex_lexeme.proofs.starts_symbol.Goals as goal

pub returns-then-is_letter : goal.returns-then-is_letter
returns-then-is_letter c =
    search (starting, rules)

pub returns-else-is_letter : goal.returns-else-is_letter
returns-else-is_letter c =
    search (starting, rules)
