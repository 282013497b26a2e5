use Rattle.parse_rules.proofs.Cases.{lists}
use Rattle.parse_rules.proofs.Loops.{list-fits}
use borrow.Author.Rules.{rules}
use Rattle.parse_rules.proofs.list_rule.Goals as goal

pub overflow_add-u-then-is_listed : goal.overflow_add-u-then-is_listed
overflow_add-u-then-is_listed c =
    search (list-fits, rules)

pub returns-then-is_listed : goal.returns-then-is_listed
returns-then-is_listed c =
    search lists

pub returns : goal.returns
returns c =
    search lists
