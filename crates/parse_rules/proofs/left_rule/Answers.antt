use Rattle.parse_rules.proofs.Cases.{lefts}
use Rattle.parse_rules.proofs.left_rule.Goals as goal

pub returns-then-k-eq-LEFT_OUT : goal.returns-then-k-eq-LEFT_OUT
returns-then-k-eq-LEFT_OUT c =
    search lefts

pub returns : goal.returns
returns c =
    search lefts
