use Rattle.base_prelude.proofs.Choice.{tests}
use borrow.Author.Rules.{rules}
use Rattle.lex_spelling.specs.Classes.{is_digit}
use Rattle.lex_spelling.proofs.is_digit.Goals as goal

pub returns-in-48-to-57 : goal.returns-in-48-to-57
unfolding is_digit
returns-in-48-to-57 c =
    search (tests, rules) depth 16

pub returns-in_default : goal.returns-in_default
unfolding is_digit
returns-in_default c =
    search (tests, rules) depth 16

pub returns-in_default-2 : goal.returns-in_default-2
unfolding is_digit
returns-in_default-2 c =
    search (tests, rules) depth 16
