use Rattle.parse_rules.proofs.Cases.{keys}
use borrow.Author.Rules.{rules}
use Rattle.parse_rules.proofs.token_key.Goals as goal

pub returns-in-3 : goal.returns-in-3
returns-in-3 c =
    search (keys, rules)

pub returns-in-4 : goal.returns-in-4
returns-in-4 c =
    search (keys, rules)

pub returns-in_default : goal.returns-in_default
returns-in_default c =
    search (keys, rules)
