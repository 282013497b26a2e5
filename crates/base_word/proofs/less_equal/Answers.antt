use Rattle.base_word.specs.Word.{le_of}
use Rattle.base_word.proofs.less_equal.Goals as goal

pub returns : goal.returns
unfolding le_of
returns c =
    cc
