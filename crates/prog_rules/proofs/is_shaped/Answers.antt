use Rattle.prog_rules.proofs.Rows.{shapes}
use Rattle.prog_rules.proofs.is_shaped.Goals as goal

pub returns-then-is_unlisted : goal.returns-then-is_unlisted
returns-then-is_unlisted c =
    search shapes

pub returns-then-has_operands : goal.returns-then-has_operands
returns-then-has_operands c =
    search shapes

pub returns : goal.returns
returns c =
    search shapes
