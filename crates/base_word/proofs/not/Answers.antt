use Rattle.std.proofs.Common.{rules}
use Rattle.base_word.specs.Word.{not_of}
use Rattle.base_word.proofs.not.Goals as goal

pub returns : goal.returns
unfolding not_of
returns c =
    search rules
