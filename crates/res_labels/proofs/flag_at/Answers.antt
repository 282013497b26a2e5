use Rattle.res_labels.specs.Labelling.{flag_at}
use Rattle.res_labels.proofs.flag_at.Goals as goal

pub returns : goal.returns
unfolding flag_at
returns c =
    cc
