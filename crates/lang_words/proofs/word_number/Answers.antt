use Rattle.lang_words.specs.Numbers.{numbers}
use mathlib.Core.Path.{refl}
use Rattle.lang_words.proofs.word_number.Goals as goal

pub returns : goal.returns
unfolding numbers
returns c =
    refl
