use Rattle.prog_verdict.proofs.Cases.{stand-ways}
use Rattle.prog_verdict.proofs.rows_stand.Goals as goal

pub returns-then-is_nested : goal.returns-then-is_nested
returns-then-is_nested c =
    search stand-ways

pub returns-else-is_nested : goal.returns-else-is_nested
returns-else-is_nested c =
    rw c.if-is_nested.false (search stand-ways)
