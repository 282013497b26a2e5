use Rattle.res_labels.specs.Labelling.{outline_word}
use Rattle.res_labels.proofs.outline_word.Goals as goal

pub returns : goal.returns
unfolding outline_word
returns c =
    cc
