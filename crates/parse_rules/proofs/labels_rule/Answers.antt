use Rattle.parse_rules.specs.Rules.{labels_rule}
use Rattle.parse_rules.proofs.labels_rule.Goals as goal

pub returns : goal.returns
unfolding labels_rule
returns c =
    cc
