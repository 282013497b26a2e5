use Rattle.base_prelude.proofs.Choice.{tests}
use borrow.Author.Rules.{rules}
use Rattle.lex_spelling.specs.Escape.{hex_of}
use Rattle.lex_spelling.proofs.hex.Goals as goal

pub returns-in-48-to-57 : goal.returns-in-48-to-57
unfolding hex_of
returns-in-48-to-57 c =
    search (tests, rules) depth 16

pub returns-in-65-to-70 : goal.returns-in-65-to-70
unfolding hex_of
returns-in-65-to-70 c =
    search (tests, rules) depth 16

pub returns-in-97-to-102 : goal.returns-in-97-to-102
unfolding hex_of
returns-in-97-to-102 c =
    search (tests, rules) depth 16

pub returns-in_default : goal.returns-in_default
unfolding hex_of
returns-in_default c =
    search (tests, rules) depth 16

pub returns-in_default-2 : goal.returns-in_default-2
unfolding hex_of
returns-in_default-2 c =
    search (tests, rules) depth 16

pub returns-in_default-3 : goal.returns-in_default-3
unfolding hex_of
returns-in_default-3 c =
    search (tests, rules) depth 16

pub returns-in_default-4 : goal.returns-in_default-4
unfolding hex_of
returns-in_default-4 c =
    search (tests, rules) depth 16
