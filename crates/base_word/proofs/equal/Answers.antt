use Rattle.std.proofs.Common.{rules}
use Rattle.base_word.specs.Word.{eq_of}
use Rattle.base_word.proofs.equal.Goals as goal

pub returns : goal.returns
unfolding eq_of
returns c =
    search rules
