use Rattle.std.proofs.Common.{rules}
use Rattle.base_word.specs.Word.{ne_of, eq_of}
use Rattle.base_word.proofs.not_equal.Goals as goal

pub returns : goal.returns
unfolding ne_of eq_of
returns c =
    search rules
