use Rattle.prog_rules.proofs.Nesting.{opening}
use Rattle.prog_rules.proofs.follows_jump.Goals as goal

pub returns-then-n-eq0 : goal.returns-then-n-eq0
returns-then-n-eq0 c =
    search opening

pub returns : goal.returns
returns c =
    search opening
