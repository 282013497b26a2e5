use Rattle.prog_rules.proofs.Nesting.{grounds}
use Rattle.prog_rules.proofs.ground_in.Goals as goal

pub returns-then-o-eq0 : goal.returns-then-o-eq0
returns-then-o-eq0 c =
    search grounds

pub returns : goal.returns
returns c =
    search grounds
