use Rattle.file_codec.proofs.Counts.{head-ways}
use Rattle.file_codec.proofs.expr_in.Goals as goal

pub returns-then-uses_expr : goal.returns-then-uses_expr
returns-then-uses_expr c =
    search head-ways

pub returns : goal.returns
returns c =
    search head-ways
