use Rattle.lex_source.proofs.Filling.{wholes}
use borrow.Author.Rules.{rules}
use Rattle.lex_source.proofs.lex.Goals as goal

pub returns-then-s-gt-SOURCE_BYTES : goal.returns-then-s-gt-SOURCE_BYTES
returns-then-s-gt-SOURCE_BYTES c =
    search (wholes, rules)

pub returns : goal.returns
returns c =
    search (wholes, rules)
