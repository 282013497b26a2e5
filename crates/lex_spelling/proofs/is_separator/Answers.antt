use Rattle.base_prelude.proofs.Choice.{tests}
use borrow.Author.Rules.{rules}
use Rattle.lex_spelling.specs.Classes.{is_separator}
use Rattle.lex_spelling.proofs.is_separator.Goals as goal

pub returns-in_default : goal.returns-in_default
unfolding is_separator
returns-in_default c =
    search (tests, rules) depth 16

pub returns-in_default-2 : goal.returns-in_default-2
unfolding is_separator
returns-in_default-2 c =
    search (tests, rules) depth 16

pub returns-in-32 : goal.returns-in-32
unfolding is_separator
returns-in-32 c =
    search (tests, rules) depth 16

pub returns-in-32-2 : goal.returns-in-32-2
unfolding is_separator
returns-in-32-2 c =
    search (tests, rules) depth 16
