use Rattle.c_words.specs.Words.{numbers_of}
use mathlib.Core.Path.{refl}
use Rattle.c_words.proofs.all_numbers.Goals as goal

pub returns : goal.returns
unfolding numbers_of
returns c =
    refl
