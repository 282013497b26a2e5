use Rattle.prog_rules.proofs.Nesting.{opening}
use Rattle.prog_rules.proofs.open_before.Goals as goal

pub returns-then-n-eq0 : goal.returns-then-n-eq0
returns-then-n-eq0 c =
    search opening

pub returns-then-is_opener : goal.returns-then-is_opener
returns-then-is_opener c =
    search opening

pub returns : goal.returns
returns c =
    search opening
