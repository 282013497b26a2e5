use Rattle.prog_scope.proofs.Cases.{row-ways}
use Rattle.prog_scope.proofs.row_held.Goals as goal

pub returns-then-not-word_held : goal.returns-then-not-word_held
returns-then-not-word_held c =
    search row-ways

pub returns-then-not-operands_held : goal.returns-then-not-operands_held
returns-then-not-operands_held c =
    search row-ways

pub returns-then-set_held : goal.returns-then-set_held
returns-then-set_held c =
    search row-ways

pub returns-else-set_held : goal.returns-else-set_held
returns-else-set_held c =
    rw c.if-set_held.false (search row-ways)
