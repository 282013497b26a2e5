use Rattle.res_rows.specs.Rows.{word_of_let}
use borrow.Author.Rules.{rules}
use Rattle.res_rows.proofs.word_of_let.Goals as goal

pub returns : goal.returns
unfolding word_of_let
returns c =
    search rules
