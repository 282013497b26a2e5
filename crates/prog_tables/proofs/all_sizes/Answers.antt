use Rattle.prog_tables.specs.Layout.{sizes_of}
use mathlib.Core.Path.{refl}
use Rattle.prog_tables.proofs.all_sizes.Goals as goal

pub returns : goal.returns
unfolding sizes_of
returns c =
    refl
