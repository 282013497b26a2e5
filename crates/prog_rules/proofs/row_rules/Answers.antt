use Rattle.prog_rules.proofs.Goals.{row-ways}
use Rattle.prog_rules.proofs.row_rules.Goals as goal

pub returns-then-ways_rules : goal.returns-then-ways_rules
returns-then-ways_rules c =
    search row-ways

pub returns-else-ways_rules : goal.returns-else-ways_rules
returns-else-ways_rules c =
    rw c.if-ways_rules.false (search row-ways)
