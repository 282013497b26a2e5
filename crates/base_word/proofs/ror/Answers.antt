use Rattle.base_word.specs.Word.{ror_of}
use Rattle.base_word.proofs.ror.Goals as goal

pub returns : goal.returns
unfolding ror_of
returns c =
    cc
