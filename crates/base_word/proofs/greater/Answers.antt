use Rattle.base_word.specs.Word.{gt_of}
use Rattle.base_word.proofs.greater.Goals as goal

pub returns : goal.returns
unfolding gt_of
returns c =
    cc
