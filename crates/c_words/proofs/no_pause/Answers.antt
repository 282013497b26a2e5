use mathlib.Core.Path.{refl}
use Rattle.base_limits.specs.Record.{pause_of}
use Rattle.c_words.proofs.no_pause.Goals as goal

pub returns : goal.returns
unfolding pause_of
returns c =
    refl
