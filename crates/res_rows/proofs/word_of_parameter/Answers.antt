use Rattle.res_rows.specs.Rows.{word_of_parameter}
use borrow.Author.Rules.{rules}
use Rattle.res_rows.proofs.word_of_parameter.Goals as goal

pub returns : goal.returns
unfolding word_of_parameter
returns c =
    search rules
