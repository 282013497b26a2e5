use Rattle.prog_rules.proofs.Nesting.{standing}
use Rattle.prog_rules.proofs.stands_there.Goals as goal

pub returns-then-not-is_listed : goal.returns-then-not-is_listed
returns-then-not-is_listed c =
    search standing

pub returns-then-may_stand : goal.returns-then-may_stand
returns-then-may_stand c =
    search standing

pub returns-else-may_stand : goal.returns-else-may_stand
returns-else-may_stand c =
    rw c.if-may_stand.false (search standing)
