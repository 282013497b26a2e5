use Rattle.prog_tables.specs.Layout.{numbers_of}
use mathlib.Core.Path.{refl}
use Rattle.prog_tables.proofs.all_numbers.Goals as goal

pub returns : goal.returns
unfolding numbers_of
returns c =
    refl
