use Rattle.prog_labels.proofs.Cases.{named-is}
use Rattle.prog_labels.proofs.is_named.Goals as goal

pub returns : goal.returns
returns c =
    search named-is
