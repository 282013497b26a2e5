use Rattle.parse_rules.proofs.Cases.{limits-are}
use Rattle.parse_rules.proofs.label_limit.Goals as goal

pub returns-then-c-lt-MOST_LABELS : goal.returns-then-c-lt-MOST_LABELS
returns-then-c-lt-MOST_LABELS c =
    search limits-are

pub returns : goal.returns
returns c =
    search limits-are
