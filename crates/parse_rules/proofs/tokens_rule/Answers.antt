use Rattle.parse_rules.specs.Rules.{tokens_rule}
use Rattle.parse_rules.proofs.tokens_rule.Goals as goal

pub returns : goal.returns
unfolding tokens_rule
returns c =
    cc
