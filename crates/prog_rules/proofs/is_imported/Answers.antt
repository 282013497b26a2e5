use borrow.Author.Tests.{ne_eqb}
use Rattle.prog_rules.proofs.Goals.{callees}
use Rattle.prog_rules.proofs.is_imported.Goals as goal

pub returns-then-j-ne-IMPORT : goal.returns-then-j-ne-IMPORT
returns-then-j-ne-IMPORT c =
    search callees

pub returns-then-p-m : goal.returns-then-p-m
returns-then-p-m c =
    search callees

pub returns-else-p-m : goal.returns-else-p-m
returns-else-p-m c =
    rw (ne_eqb _ _ c.if-p-m.false) (search callees)
