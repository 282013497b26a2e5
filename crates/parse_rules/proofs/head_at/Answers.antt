use Rattle.parse_rules.proofs.Cases.{heads}
use Rattle.parse_rules.proofs.head_at.Goals as goal

pub returns-then-is_head : goal.returns-then-is_head
returns-then-is_head c =
    search heads

pub returns : goal.returns
returns c =
    search heads
