use Rattle.parse_rules.proofs.Cases.{stands}
use borrow.Author.Rules.{rules}
use Rattle.parse_rules.proofs.substitute_key.Goals as goal

pub returns-in-3 : goal.returns-in-3
returns-in-3 c =
    search (stands, rules)

pub returns-in-1 : goal.returns-in-1
returns-in-1 c =
    search (stands, rules)

pub returns-in_default : goal.returns-in_default
returns-in_default c =
    search (stands, rules)
