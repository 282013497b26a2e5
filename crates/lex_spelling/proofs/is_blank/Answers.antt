use Rattle.base_prelude.proofs.Choice.{tests}
use borrow.Author.Rules.{rules}
use Rattle.lex_spelling.specs.Classes.{is_blank}
use Rattle.lex_spelling.proofs.is_blank.Goals as goal

pub returns-in-32 : goal.returns-in-32
unfolding is_blank
returns-in-32 c =
    search (tests, rules) depth 16

pub returns-in_default : goal.returns-in_default
unfolding is_blank
returns-in_default c =
    search (tests, rules) depth 16
