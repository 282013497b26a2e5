use Rattle.std.proofs.Common.{rules}
use Rattle.base_word.specs.Word.{or_of}
use Rattle.base_word.proofs.or.Goals as goal

pub returns : goal.returns
unfolding or_of
returns c =
    search rules
