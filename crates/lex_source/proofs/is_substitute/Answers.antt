use Rattle.base_prelude.proofs.Choice.{tests}
use borrow.Author.Rules.{rules}
use Rattle.lex_source.specs.Token.{is_substitute}
use Rattle.lex_source.proofs.is_substitute.Goals as goal

pub returns-in-4 : goal.returns-in-4
unfolding is_substitute
returns-in-4 c =
    search (tests, rules)

pub returns-in_default : goal.returns-in_default
unfolding is_substitute
returns-in_default c =
    search (tests, rules)
