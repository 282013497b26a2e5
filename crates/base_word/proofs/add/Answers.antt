use Rattle.base_word.specs.Word.{add_of}
use Rattle.std.proofs.Common.{rules}
use Rattle.base_word.proofs.add.Goals as goal

pub returns : goal.returns
unfolding add_of
returns c =
    search rules
