use Rattle.prog_scope.proofs.Cases.{data-ways}
use Rattle.prog_scope.proofs.is_data_at.Goals as goal

pub returns-then-is_data : goal.returns-then-is_data
returns-then-is_data c =
    search data-ways

pub returns-else-is_data : goal.returns-else-is_data
returns-else-is_data c =
    rw c.if-is_data.false (search data-ways)
