use borrow.Author.Tests.{ne_eqb}
use Rattle.prog_rules.proofs.Rows.{bearing}
use Rattle.prog_rules.proofs.is_place.Goals as goal

pub returns-then-x-eq-PLACE : goal.returns-then-x-eq-PLACE
returns-then-x-eq-PLACE c =
    search bearing

pub returns-else-x-eq-PLACE : goal.returns-else-x-eq-PLACE
returns-else-x-eq-PLACE c =
    rw (ne_eqb _ _ c.if-x-eq-PLACE.false) (search bearing)
