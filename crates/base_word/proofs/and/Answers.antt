use Rattle.std.proofs.Common.{rules}
use Rattle.base_word.specs.Word.{and_of}
use Rattle.base_word.proofs.and.Goals as goal

pub returns : goal.returns
unfolding and_of
returns c =
    search rules
