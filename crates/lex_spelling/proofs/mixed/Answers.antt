use Rattle.lex_spelling.specs.Text.{mix}
use borrow.Author.Rules.{rules}
use Rattle.lex_spelling.proofs.mixed.Goals as goal

pub returns : goal.returns
unfolding mix
returns c =
    search rules
