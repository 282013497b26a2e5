use Rattle.base_word.specs.Word.{ge_of}
use Rattle.base_word.proofs.greater_equal.Goals as goal

pub returns : goal.returns
unfolding ge_of
returns c =
    cc
