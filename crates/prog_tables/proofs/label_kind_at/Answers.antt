use Rattle.prog_tables.specs.Label.{label_at}
use Rattle.prog_tables.proofs.label_kind_at.Goals as goal

pub returns : goal.returns
unfolding label_at
returns c =
    cc
