use Rattle.prog_rules.proofs.Rows.{bearing}
use Rattle.prog_rules.proofs.is_inner.Goals as goal

pub returns-then-x-eq-FUNCTION : goal.returns-then-x-eq-FUNCTION
returns-then-x-eq-FUNCTION c =
    search bearing

pub returns : goal.returns
returns c =
    search bearing
