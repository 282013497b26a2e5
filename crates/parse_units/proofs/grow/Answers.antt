use Rattle.parse_units.proofs.Cases.{growing}
use Rattle.parse_units.proofs.grow.Goals as goal

pub returns-then-m-eq0 : goal.returns-then-m-eq0
returns-then-m-eq0 c =
    search growing

pub returns-then-m-eq1 : goal.returns-then-m-eq1
returns-then-m-eq1 c =
    search growing

pub returns : goal.returns
returns c =
    search growing
