use Rattle.parse_units.specs.OutlineRow.{outline_row_of}
use mathlib.Core.Path.{refl}
use Rattle.parse_units.proofs.all_outline_words.Goals as goal

pub returns : goal.returns
unfolding outline_row_of
returns c =
    refl
