use Rattle.prog_rules.proofs.Nesting.{followed}
use Rattle.prog_rules.proofs.is_followed.Goals as goal

pub returns-then-follows_jump : goal.returns-then-follows_jump
returns-then-follows_jump c =
    search followed

pub returns : goal.returns
returns c =
    search followed
