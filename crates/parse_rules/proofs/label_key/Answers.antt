use Rattle.parse_rules.specs.Rules.{label_key}
use Rattle.parse_rules.proofs.label_key.Goals as goal

pub returns : goal.returns
unfolding label_key
returns c =
    cc
