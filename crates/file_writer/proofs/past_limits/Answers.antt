use Rattle.file_writer.proofs.Ways.{limit-ways}
use Rattle.file_writer.proofs.past_limits.Goals as goal

pub returns-then-c-gt-STATEMENTS : goal.returns-then-c-gt-STATEMENTS
returns-then-c-gt-STATEMENTS c =
    search limit-ways

pub returns-then-k-gt-LABELS : goal.returns-then-k-gt-LABELS
returns-then-k-gt-LABELS c =
    search limit-ways

pub returns : goal.returns
returns c =
    search limit-ways
