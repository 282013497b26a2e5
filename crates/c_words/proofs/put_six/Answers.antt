use Rattle.c_words.proofs.Cases.{six-placed}
use mathlib.Core.Path.{refl}
use Rattle.c_words.proofs.put_six.Goals as goal

pub returns : goal.returns
returns c =
    (refl, search six-placed)
