use Rattle.base_prelude.proofs.Choice.{tests}
use borrow.Author.Rules.{rules}
use Rattle.lex_lexeme.specs.Reading.{is_named}
use Rattle.lex_lexeme.proofs.is_named.Goals as goal

pub returns-then-kind-ge-LABEL : goal.returns-then-kind-ge-LABEL
unfolding is_named
returns-then-kind-ge-LABEL c =
    search (tests, rules)

pub returns-else-kind-ge-LABEL : goal.returns-else-kind-ge-LABEL
unfolding is_named
returns-else-kind-ge-LABEL c =
    search (tests, rules)
