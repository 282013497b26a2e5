use Rattle.base_word.specs.Word.{mul_of}
use Rattle.std.proofs.Common.{rules}
use Rattle.base_word.proofs.mul.Goals as goal

pub returns : goal.returns
unfolding mul_of
returns c =
    search rules
