use Rattle.base_prelude.proofs.Choice.{tests}
use borrow.Author.Rules.{rules}
use Rattle.lex_spelling.specs.Classes.{is_letter}
use Rattle.lex_spelling.proofs.is_letter.Goals as goal

pub returns-in_default : goal.returns-in_default
unfolding is_letter
returns-in_default c =
    search (tests, rules) depth 16

pub returns-in_default-2 : goal.returns-in_default-2
unfolding is_letter
returns-in_default-2 c =
    search (tests, rules) depth 16

pub returns-in_default-3 : goal.returns-in_default-3
unfolding is_letter
returns-in_default-3 c =
    search (tests, rules) depth 16

pub returns-in-65-to-90 : goal.returns-in-65-to-90
unfolding is_letter
returns-in-65-to-90 c =
    search (tests, rules) depth 16

pub returns-in-65-to-90-2 : goal.returns-in-65-to-90-2
unfolding is_letter
returns-in-65-to-90-2 c =
    search (tests, rules) depth 16

pub returns-in-65-to-90-3 : goal.returns-in-65-to-90-3
unfolding is_letter
returns-in-65-to-90-3 c =
    search (tests, rules) depth 16
