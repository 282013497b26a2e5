use Rattle.file_codec.proofs.Cases.{part-ways}
use Rattle.file_codec.proofs.uses_expr.Goals as goal

pub returns-then-has_expression : goal.returns-then-has_expression
returns-then-has_expression c =
    search part-ways

pub returns : goal.returns
returns c =
    search part-ways
