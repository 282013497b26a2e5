use borrow.Author.Tests.{ne_eqb}
use Rattle.prog_rules.proofs.Nesting.{nested}
use Rattle.prog_rules.proofs.is_nested.Goals as goal

pub returns-then-o-eq0 : goal.returns-then-o-eq0
returns-then-o-eq0 c =
    search nested

pub returns-else-o-eq0 : goal.returns-else-o-eq0
returns-else-o-eq0 c =
    rw (ne_eqb _ _ c.if-o-eq0.false) (search nested)
