use Rattle.prog_labels.proofs.Cases.{new_is}
use Rattle.prog_labels.proofs.is_name_new.Goals as goal

pub returns : goal.returns
returns c =
    search new_is
