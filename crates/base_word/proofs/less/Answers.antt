use Rattle.base_word.specs.Word.{lt_of}
use Rattle.base_word.proofs.less.Goals as goal

pub returns : goal.returns
unfolding lt_of
returns c =
    cc
