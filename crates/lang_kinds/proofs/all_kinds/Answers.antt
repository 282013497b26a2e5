use Rattle.lang_kinds.specs.Kinds.{kinds_of}
use mathlib.Core.Path.{refl}
use Rattle.lang_kinds.proofs.all_kinds.Goals as goal

pub returns : goal.returns
unfolding kinds_of
returns c =
    refl
