use Rattle.base_word.specs.Word.{sub_of}
use Rattle.std.proofs.Common.{rules}
use Rattle.base_word.proofs.sub.Goals as goal

pub returns : goal.returns
unfolding sub_of
returns c =
    search rules
