use Rattle.res_labels.specs.Labelling.{label_words}
use Rattle.res_labels.proofs.write_row.Goals as goal

pub returns : goal.returns
unfolding label_words
returns c =
    cc
