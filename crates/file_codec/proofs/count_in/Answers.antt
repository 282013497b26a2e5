use Rattle.file_codec.proofs.Counts.{head-ways}
use Rattle.file_codec.proofs.count_in.Goals as goal

pub returns-then-has_operands : goal.returns-then-has_operands
returns-then-has_operands c =
    search head-ways

pub returns : goal.returns
returns c =
    search head-ways
