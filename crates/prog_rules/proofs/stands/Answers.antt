use Rattle.prog_rules.proofs.Nesting.{stand}
use Rattle.prog_rules.proofs.stands.Goals as goal

pub returns-then-stands_there : goal.returns-then-stands_there
returns-then-stands_there c =
    search stand

pub returns-else-stands_there : goal.returns-else-stands_there
returns-else-stands_there c =
    rw c.if-stands_there.false (search stand)
