use borrow.Author.Tests.{ne_eqb}
use Rattle.prog_rules.proofs.Goals.{callees}
use Rattle.prog_rules.proofs.is_callee.Goals as goal

pub returns-then-j-ne-FUNCTION : goal.returns-then-j-ne-FUNCTION
returns-then-j-ne-FUNCTION c =
    search callees

pub returns-then-p-m : goal.returns-then-p-m
returns-then-p-m c =
    search callees

pub returns-else-p-m : goal.returns-else-p-m
returns-else-p-m c =
    rw (ne_eqb _ _ c.if-p-m.false) (search callees)
