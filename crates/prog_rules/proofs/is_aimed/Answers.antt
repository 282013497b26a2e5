use Rattle.prog_rules.proofs.Rows.{aiming}
use Rattle.prog_rules.proofs.is_aimed.Goals as goal

pub returns-then-has_target : goal.returns-then-has_target
returns-then-has_target c =
    search aiming

pub returns : goal.returns
returns c =
    search aiming
