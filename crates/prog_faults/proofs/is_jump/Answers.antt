use Rattle.prog_faults.proofs.Cases.{jump-ways}
use Rattle.prog_faults.proofs.is_jump.Goals as goal

pub returns-then-has_target : goal.returns-then-has_target
returns-then-has_target c =
    search jump-ways

pub returns : goal.returns
returns c =
    search jump-ways
