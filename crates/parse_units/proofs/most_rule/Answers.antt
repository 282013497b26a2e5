use Rattle.parse_units.proofs.Cases.{limiting}
use Rattle.parse_units.proofs.most_rule.Goals as goal

pub returns-then-count-limit : goal.returns-then-count-limit
returns-then-count-limit c =
    search limiting

pub returns-then-k-adds : goal.returns-then-k-adds
returns-then-k-adds c =
    search limiting

pub returns : goal.returns
returns c =
    search limiting
