use Rattle.base_prelude.proofs.Choice.{tests}
use borrow.Author.Rules.{rules}
use Rattle.lex_spelling.specs.Text.{in_string}
use Rattle.lex_spelling.proofs.string_byte.Goals as goal

pub returns-then-c-eq34 : goal.returns-then-c-eq34
unfolding in_string
returns-then-c-eq34 c =
    search (tests, rules) depth 16

pub returns : goal.returns
unfolding in_string
returns c =
    search (tests, rules) depth 16
