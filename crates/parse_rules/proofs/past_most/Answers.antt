use Rattle.parse_rules.proofs.Cases.{limits-are}
use Rattle.parse_rules.proofs.past_most.Goals as goal

pub returns-then-i-next : goal.returns-then-i-next
returns-then-i-next c =
    search limits-are

pub returns : goal.returns
returns c =
    search limits-are
