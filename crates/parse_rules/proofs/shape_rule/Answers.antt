use Rattle.parse_rules.proofs.Cases.{shaping}
use borrow.Author.Rules.{rules}
use Rattle.parse_rules.proofs.shape_rule.Goals as goal

pub returns-then-shape_fits : goal.returns-then-shape_fits
returns-then-shape_fits c =
    search (shaping, rules)

pub returns-in-0 : goal.returns-in-0
returns-in-0 c =
    search (shaping, rules)

pub returns-in-35 : goal.returns-in-35
returns-in-35 c =
    search (shaping, rules)

pub returns-else-shape_fits : goal.returns-else-shape_fits
returns-else-shape_fits c =
    search (shaping, rules)
