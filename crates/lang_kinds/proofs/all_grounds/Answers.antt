use Rattle.lang_kinds.specs.Grounds.{grounds_of}
use mathlib.Core.Path.{refl}
use Rattle.lang_kinds.proofs.all_grounds.Goals as goal

pub returns : goal.returns
unfolding grounds_of
returns c =
    refl
