use Rattle.lex_spelling.proofs.Cases.{naming}
use borrow.Author.Rules.{rules}
use Rattle.lex_spelling.proofs.is_name_byte.Goals as goal

pub returns-then-is_digit : goal.returns-then-is_digit
returns-then-is_digit c =
    search (naming, rules)

pub returns-else-is_digit : goal.returns-else-is_digit
returns-else-is_digit c =
    search (naming, rules)
