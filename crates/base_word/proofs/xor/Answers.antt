use Rattle.std.proofs.Common.{rules}
use Rattle.base_word.specs.Word.{xor_of}
use Rattle.base_word.proofs.xor.Goals as goal

pub returns : goal.returns
unfolding xor_of
returns c =
    search rules
